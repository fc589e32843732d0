use Rattle.std.proofs.Common.{◌∙◌, List, Option, ap}
use Rattle.std.specs.List.{slice_get}
use Rattle.job_entries.specs.declared.entries.Place.{Place}
use Rattle.job_entries.specs.Entries.{held, held_in, index_in, layer_position}
use Rattle.job_index.specs.Places.{LayerPlaces}
use Rattle.job_entries.specs.OneJob.{AllJobs, OneJob}
use Rattle.job_entries.proofs.Held.{found_held, rising_held, whole_held}
use Rattle.job_entries.proofs.HeldKept.{is_at}
use Rattle.job_entries.proofs.HeldLists.{index_found}
use Rattle.job_entries.proofs.entries.Entries.index_at.Goals as goal

pub returns-in-None : goal.returns-in-None
returns-in-None c layer =
    let at = c.args.at.now in
    let job = at.job in
    let found = found_held at c.self.inside.places.items c.self.inside.next c.self.invariant.rise c.self.invariant.each (is_at at c.self.view_is c.requires) in
    let places = c.self.inside.places.items in
    let ok = c.self.invariant in
    ap (λ (o : Option OneJob). slice_get (index_in o) layer) (c.in-None.ensures ∙ ap (λ (ps : List Place). held_in (slice_get ps at.place)) c.as_slice.ensures.value ∙ found)
    ∙ index_found job layer 0 (held places) c.self.inside.next (rising_held 0 places c.self.inside.next ok.rise ok.each) (whole_held places ok.each)
    ∙ ap (λ (a : AllJobs). slice_get a.index (layer_position job layer a.layers)) c.self.view_is

pub returns-in-Some : goal.returns-in-Some
returns-in-Some c layer =
    let at = c.args.at.now in
    let job = at.job in
    let found = found_held at c.self.inside.places.items c.self.inside.next c.self.invariant.rise c.self.invariant.each (is_at at c.self.view_is c.requires) in
    let places = c.self.inside.places.items in
    let ok = c.self.invariant in
    ap (λ (xs : List LayerPlaces). slice_get xs layer) c.index.ensures
    ∙ ap (λ (o : Option OneJob). slice_get (index_in o) layer) (c.in-Some.ensures ∙ ap (λ (ps : List Place). held_in (slice_get ps at.place)) c.as_slice.ensures.value ∙ found)
    ∙ index_found job layer 0 (held places) c.self.inside.next (rising_held 0 places c.self.inside.next ok.rise ok.each) (whole_held places ok.each)
    ∙ ap (λ (a : AllJobs). slice_get a.index (layer_position job layer a.layers)) c.self.view_is
