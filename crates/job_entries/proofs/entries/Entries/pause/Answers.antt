use Rattle.std.proofs.Common.{◌∙◌, List, map, sym, ap, subst}
use Rattle.std.specs.Vec.{vec_capacity}
use Rattle.farm_types.specs.Operators.{paused_row}
use Rattle.job_entries.specs.declared.entries.Place.{Place}
use Rattle.job_entries.specs.Entries.{KeepsEntries, all_of, held, place_key, with_paused}
use Rattle.job_entries.specs.OneJob.{AllJobs}
use Rattle.job_entries.proofs.HeldKept.{all_changed, all_paused, changed_places, is_at, paused_keeps}
use Rattle.job_entries.proofs.entries.Entries.pause.Goals as goal

pub invariant_of-self : goal.invariant_of-self
invariant_of-self c =
    subst (λ (ps : List Place). KeepsEntries ps c.self.inside.next (vec_capacity c.pause_at.new.places)) (sym c.pause_at.ensures.items)
    (changed_places (with_paused c.args.paused) (paused_keeps c.args.paused) c.self.inside.places.items c.self.inside.next _ _ c.args.at.now.place c.pause_at.ensures.capacity c.self.invariant)

pub returns : goal.returns
returns c =
    let at = c.args.at.now in
    let places = c.self.inside.places.items in
    let next = c.self.inside.next in
    let ok = c.self.invariant in
    ap (λ (ps : List Place). all_of (map place_key ps) (held ps) next) c.pause_at.ensures.items
    ∙ all_changed at places next ok.rise ok.each (is_at at c.self.view_is c.requires) (with_paused c.args.paused)
    ∙ all_paused (map place_key places) at.job c.args.paused (held places) next
    ∙ ap (λ (a : AllJobs). record a { rows = map (paused_row at.job c.args.paused) a.rows }) c.self.view_is
