use Rattle.std.proofs.Common.{◌∙◌, List, map, sym, ap, subst}
use Rattle.std.specs.Vec.{vec_capacity}
use Rattle.farm_types.specs.Farm.{changed_at}
use Rattle.job_entries.specs.declared.entries.Place.{Place}
use Rattle.job_entries.specs.Entries.{KeepsEntries, all_of, held, place_key, with_mark, layer_position}
use Rattle.job_index.specs.Places.{marked}
use Rattle.job_entries.specs.OneJob.{AllJobs}
use Rattle.job_entries.proofs.Held.{rising_held, whole_held}
use Rattle.job_entries.proofs.HeldKept.{all_changed, all_marked, changed_places, is_at, mark_whole}
use Rattle.job_entries.proofs.entries.Entries.mark.Goals as goal

pub invariant_of-self : goal.invariant_of-self
invariant_of-self c =
    subst (λ (ps : List Place). KeepsEntries ps c.self.inside.next (vec_capacity c.mark_at.new.places)) (sym c.mark_at.ensures.items)
    (changed_places (with_mark c.args.layer c.args.position c.args.waits) (mark_whole c.args.layer c.args.position c.args.waits) c.self.inside.places.items c.self.inside.next _ _ c.args.at.now.place c.mark_at.ensures.capacity c.self.invariant)

pub returns : goal.returns
returns c =
    let at = c.args.at.now in
    let places = c.self.inside.places.items in
    let next = c.self.inside.next in
    let ok = c.self.invariant in
    ap (λ (ps : List Place). all_of (map place_key ps) (held ps) next) c.mark_at.ensures.items
    ∙ all_changed at places next ok.rise ok.each (is_at at c.self.view_is c.requires) (with_mark c.args.layer c.args.position c.args.waits)
    ∙ all_marked (map place_key places) at.job c.args.layer c.args.position c.args.waits (held places) next (rising_held 0 places next ok.rise ok.each) (whole_held places ok.each)
    ∙ ap (λ (a : AllJobs). record a { index = changed_at a.index (layer_position at.job c.args.layer a.layers) (marked c.args.position c.args.waits) }) c.self.view_is
