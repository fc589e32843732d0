use Rattle.std.proofs.Common.{◌∙◌, List, map, eqb, sym, ap, subst}
use Rattle.std.specs.List.{list_any}
use Rattle.std.specs.Vec.{vec_capacity}
use Rattle.farm_types.specs.declared.rows.LayerRow.{LayerRow}
use Rattle.job_entries.specs.declared.entries.Place.{Place}
use Rattle.job_entries.specs.Entries.{KeepsEntries, all_of, held, place_key, without_row}
use Rattle.job_entries.specs.OneJob.{AllJobs}
use Rattle.job_entries.proofs.Held.{whole_held}
use Rattle.job_entries.proofs.HeldKept.{all_emptied, all_left, emptied_places, is_at}
use Rattle.job_entries.proofs.entries.Entries.leave.Goals as goal

pub invariant_of-self : goal.invariant_of-self
invariant_of-self c =
    subst (λ (ps : List Place). KeepsEntries ps c.self.inside.next (vec_capacity c.empty_at.new.places)) (sym c.empty_at.ensures.items)
    (emptied_places c.self.inside.places.items c.self.inside.next _ _ c.args.at.now.place c.empty_at.ensures.capacity c.self.invariant)

pub returns : goal.returns
returns c =
    let at = c.args.at.now in
    let places = c.self.inside.places.items in
    let next = c.self.inside.next in
    let ok = c.self.invariant in
    let none = ap (λ (a : AllJobs). list_any (λ (l : LayerRow). eqb l.job at.job) a.layers) c.self.view_is ∙ c.requires.none in
    ap (λ (ps : List Place). all_of (map place_key ps) (held ps) next) c.empty_at.ensures.items
    ∙ all_emptied at places next ok.rise ok.each (is_at at c.self.view_is c.requires.at)
    ∙ all_left at.job (map place_key places) (held places) next (whole_held places ok.each) none
    ∙ ap (without_row at.job) c.self.view_is
