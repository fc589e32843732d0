use Rattle.std.proofs.Common.{◌∙◌, List, Some, option_map, eqb, ap}
use Rattle.std.specs.List.{position_or_len, slice_get}
use Rattle.farm_types.specs.declared.rows.JobRow.{JobRow}
use Rattle.job_entries.specs.declared.entries.Place.{Place}
use Rattle.job_entries.specs.Entries.{counts_held, held, held_in}
use Rattle.job_entries.specs.OneJob.{AllJobs}
use Rattle.job_entries.proofs.Held.{found_held}
use Rattle.job_entries.proofs.HeldKept.{is_at}
use Rattle.job_entries.proofs.HeldLists.{counts_found}
use Rattle.job_entries.proofs.entries.Entries.counts_at.Goals as goal

pub returns-in-None : goal.returns-in-None
returns-in-None c =
    let at = c.args.at.now in
    let job = at.job in
    let found = found_held at c.self.inside.places.items c.self.inside.next c.self.invariant.rise c.self.invariant.each (is_at at c.self.view_is c.requires) in
    ap (option_map counts_held) (c.in-None.ensures ∙ ap (λ (ps : List Place). held_in (slice_get ps at.place)) c.as_slice.ensures.value ∙ found)
    ∙ counts_found job (held c.self.inside.places.items) ∙ ap (λ (a : AllJobs). slice_get a.counts (position_or_len (λ (j : JobRow). eqb j.job job) a.rows)) c.self.view_is

pub returns-in-Some : goal.returns-in-Some
returns-in-Some c =
    let at = c.args.at.now in
    let job = at.job in
    let found = found_held at c.self.inside.places.items c.self.inside.next c.self.invariant.rise c.self.invariant.each (is_at at c.self.view_is c.requires) in
    ap Some c.counts.ensures
    ∙ ap (option_map counts_held) (c.in-Some.ensures ∙ ap (λ (ps : List Place). held_in (slice_get ps at.place)) c.as_slice.ensures.value ∙ found)
    ∙ counts_found job (held c.self.inside.places.items) ∙ ap (λ (a : AllJobs). slice_get a.counts (position_or_len (λ (j : JobRow). eqb j.job job) a.rows)) c.self.view_is
