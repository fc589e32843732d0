use Rattle.std.proofs.Common.{◌∙◌, ◌&&◌, List, Option, eqb, sym, ap, subst}
use Rattle.std.specs.List.{find, slice_get}
use Rattle.farm_types.specs.declared.rows.LayerRow.{LayerRow}
use Rattle.job_entries.specs.declared.entries.Place.{Place}
use Rattle.job_entries.specs.Entries.{ArePlaces, has_number, held, layers_in}
use Rattle.job_entries.specs.OneJob.{AllJobs, OneJob}
use Rattle.job_entries.proofs.Held.{rising_held, whole_held}
use Rattle.job_entries.proofs.HeldLists.{layers_beside}
use Rattle.job_entries.proofs.entries.Entries.layer.Goals as goal

pub entry_in-requires : goal.entry_in-requires
entry_in-requires c = subst ArePlaces (sym c.as_slice.ensures.value) (record { next = c.self.inside.next; rise = c.self.invariant.rise; each = c.self.invariant.each })

pub returns-in-None : goal.returns-in-None
returns-in-None c =
    let job = c.args.job in
    let places = c.self.inside.places.items in
    let ok = c.self.invariant in
    ap (λ (o : Option OneJob). slice_get (layers_in o) c.args.place) (c.in-None.ensures ∙ ap (λ (ps : List Place). find (has_number job) (held ps)) c.as_slice.ensures.value)
    ∙ layers_beside job c.args.place 0 (held places) c.self.inside.next (rising_held 0 places c.self.inside.next ok.rise ok.each) (whole_held places ok.each)
    ∙ ap (λ (a : AllJobs). find (λ (l : LayerRow). eqb l.job job && eqb l.place c.args.place) a.layers) c.self.view_is

pub returns-in-Some : goal.returns-in-Some
returns-in-Some c =
    let job = c.args.job in
    let places = c.self.inside.places.items in
    let ok = c.self.invariant in
    c.layer_at.ensures ∙ ap (λ (ls : List LayerRow). slice_get ls c.args.place) c.layers.ensures
    ∙ ap (λ (o : Option OneJob). slice_get (layers_in o) c.args.place) (c.in-Some.ensures ∙ ap (λ (ps : List Place). find (has_number job) (held ps)) c.as_slice.ensures.value)
    ∙ layers_beside job c.args.place 0 (held places) c.self.inside.next (rising_held 0 places c.self.inside.next ok.rise ok.each) (whole_held places ok.each)
    ∙ ap (λ (a : AllJobs). find (λ (l : LayerRow). eqb l.job job && eqb l.place c.args.place) a.layers) c.self.view_is
