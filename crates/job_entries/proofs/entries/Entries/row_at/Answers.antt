use Rattle.std.proofs.Common.{◌∙◌, List, Some, option_map, eqb, ap}
use Rattle.std.specs.List.{find, slice_get}
use Rattle.farm_types.specs.declared.rows.JobRow.{JobRow}
use Rattle.job_entries.specs.declared.entries.Place.{Place}
use Rattle.job_entries.specs.Entries.{held, held_in, row_of}
use Rattle.job_entries.specs.OneJob.{AllJobs}
use Rattle.job_entries.proofs.Held.{found_held}
use Rattle.job_entries.proofs.HeldKept.{is_at}
use Rattle.job_entries.proofs.HeldLists.{row_found}
use Rattle.job_entries.proofs.entries.Entries.row_at.Goals as goal

pub returns-in-None : goal.returns-in-None
returns-in-None c =
    let at = c.args.at.now in
    let job = at.job in
    let found = found_held at c.self.inside.places.items c.self.inside.next c.self.invariant.rise c.self.invariant.each (is_at at c.self.view_is c.requires) in
    ap (option_map row_of) (c.in-None.ensures ∙ ap (λ (ps : List Place). held_in (slice_get ps at.place)) c.as_slice.ensures.value ∙ found)
    ∙ row_found job (held c.self.inside.places.items) ∙ ap (λ (a : AllJobs). find (λ (j : JobRow). eqb j.job job) a.rows) c.self.view_is

pub returns-in-Some : goal.returns-in-Some
returns-in-Some c =
    let at = c.args.at.now in
    let job = at.job in
    let found = found_held at c.self.inside.places.items c.self.inside.next c.self.invariant.rise c.self.invariant.each (is_at at c.self.view_is c.requires) in
    ap Some c.row.ensures
    ∙ ap (option_map row_of) (c.in-Some.ensures ∙ ap (λ (ps : List Place). held_in (slice_get ps at.place)) c.as_slice.ensures.value ∙ found)
    ∙ row_found job (held c.self.inside.places.items) ∙ ap (λ (a : AllJobs). find (λ (j : JobRow). eqb j.job job) a.rows) c.self.view_is
