use Rattle.std.proofs.Common.{ap, ◌∙◌, List, ℕ, length}
use Rattle.std.specs.List.{filter}
use Rattle.std.proofs.lemmas.List.{length-map}
use Rattle.farm_types.specs.Finish.{is_finished}
use Rattle.farm_types.specs.Kept.{finish_of}
use Rattle.stored_rows.specs.Told.{Told}
use Rattle.stored_rows.proofs.stored_rows.StoredRows.finished_jobs.Goals as goal

pub returns : goal.returns
returns c =
    c.finished.ensures ∙ ap (λ (ns : List ℕ). length ns) c.self.invariant.told.of_jobs.finished ∙ length-map (filter is_finished c.self.inside.lists.jobs.items) finish_of
    ∙ ap (λ (t : Told). length (filter is_finished t.farm.jobs)) c.self.view_is
