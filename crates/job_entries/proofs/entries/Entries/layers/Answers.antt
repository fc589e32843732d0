use Rattle.std.proofs.Common.{◌∙◌, List, sym, ap, subst}
use Rattle.std.specs.List.{find}
use Rattle.farm_types.specs.Farm.{layers_of}
use Rattle.job_entries.specs.declared.entries.Place.{Place}
use Rattle.job_entries.specs.Entries.{ArePlaces, has_number, held, layers_in}
use Rattle.job_entries.specs.OneJob.{AllJobs}
use Rattle.job_entries.proofs.Held.{rising_held, whole_held}
use Rattle.job_entries.proofs.HeldLists.{layers_filtered}
use Rattle.job_entries.proofs.entries.Entries.layers.Goals as goal

pub entry_in-requires : goal.entry_in-requires
entry_in-requires c = subst ArePlaces (sym c.as_slice.ensures.value) (record { next = c.self.inside.next; rise = c.self.invariant.rise; each = c.self.invariant.each })

pub returns-in-None : goal.returns-in-None
returns-in-None c =
    let job = c.args.job in
    let places = c.self.inside.places.items in
    let ok = c.self.invariant in
    ap layers_in (c.in-None.ensures ∙ ap (λ (ps : List Place). find (has_number job) (held ps)) c.as_slice.ensures.value)
    ∙ layers_filtered job 0 0 (held places) c.self.inside.next (rising_held 0 places c.self.inside.next ok.rise ok.each) (whole_held places ok.each) ∙ ap (λ (a : AllJobs). layers_of a.layers job) c.self.view_is

pub returns-in-Some : goal.returns-in-Some
returns-in-Some c =
    let job = c.args.job in
    let places = c.self.inside.places.items in
    let ok = c.self.invariant in
    c.layers.ensures ∙ ap layers_in (c.in-Some.ensures ∙ ap (λ (ps : List Place). find (has_number job) (held ps)) c.as_slice.ensures.value)
    ∙ layers_filtered job 0 0 (held places) c.self.inside.next (rising_held 0 places c.self.inside.next ok.rise ok.each) (whole_held places ok.each) ∙ ap (λ (a : AllJobs). layers_of a.layers job) c.self.view_is
