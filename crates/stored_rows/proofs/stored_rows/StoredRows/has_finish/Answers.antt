use Rattle.std.proofs.Common.{◌≡◌, ap, ◌∙◌, ℕ, eqb, true, sym, subst}
use Rattle.std.specs.List.{list_any}
use Rattle.farm_types.specs.declared.rows.JobRow.{JobRow}
use Rattle.farm_types.specs.Kept.{has_its_finish}
use Rattle.stored_rows.specs.Told.{Told}
use Rattle.stored_rows.proofs.Finishes.{any_finish, some_finish}
use Rattle.stored_rows.proofs.stored_rows.StoredRows.has_finish.Goals as goal

pub returns : goal.returns
returns c =
    let r = c.args.row.now in
    let a = c.self.inside in
    let ends = subst (λ (t : Told). has_its_finish t.farm.next_finish r ≡ true) (sym c.self.view_is) c.requires.some in
    c.has_finish.ensures ∙ ap (list_any (λ (n : ℕ). eqb n r.finish)) c.self.invariant.told.of_jobs.finished
    ∙ any_finish a.lists.next_finish r.finish (some_finish a.lists.next_finish r c.requires.finished ends) a.lists.jobs.items c.self.invariant.told.of_jobs.finishes
    ∙ ap (λ (t : Told). list_any (λ (j : JobRow). eqb j.finish r.finish) t.farm.jobs) c.self.view_is
