use Rattle.std.proofs.Common.{ap, ◌∙◌, List, ℕ}
use Rattle.std.specs.List.{list_any}
use Rattle.std.specs.Str.{bytes_eq}
use Rattle.farm_types.specs.declared.rows.JobRow.{JobRow}
use Rattle.farm_types.specs.Kept.{job_label}
use Rattle.row_index.proofs.Named.{any_labelled}
use Rattle.stored_rows.specs.Told.{Told}
use Rattle.stored_rows.proofs.stored_rows.StoredRows.has_job.Goals as goal

pub returns : goal.returns
returns c =
    c.has_name.ensures ∙ ap (list_any (λ (other : List ℕ). bytes_eq other c.args.name.now)) c.self.invariant.told.of_jobs.names
    ∙ any_labelled job_label c.args.name.now c.self.inside.lists.jobs.items ∙ ap (λ (t : Told). list_any (λ (x : JobRow). bytes_eq (job_label x) c.args.name.now) t.farm.jobs) c.self.view_is
