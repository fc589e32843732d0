use Rattle.std.proofs.Common.{◌∙◌, List, map, sym, ap, subst}
use Rattle.std.specs.Vec.{vec_capacity}
use Rattle.job_entries.specs.declared.entries.Place.{Place}
use Rattle.job_entries.specs.Entries.{KeepsEntries, all_of, held, place_key, with_end, with_finish}
use Rattle.job_entries.proofs.Held.{rising_held, whole_held}
use Rattle.job_entries.proofs.HeldFinish.{all_finished, finish_whole}
use Rattle.job_entries.proofs.HeldKept.{all_changed, changed_places, is_at}
use Rattle.job_entries.proofs.entries.Entries.finish.Goals as goal

pub invariant_of-self : goal.invariant_of-self
invariant_of-self c =
    subst (λ (ps : List Place). KeepsEntries ps c.self.inside.next (vec_capacity c.finish_at.new.places)) (sym c.finish_at.ensures.items)
    (changed_places (with_finish c.args.finish c.args.counts) (finish_whole c.args.finish c.args.counts) c.self.inside.places.items c.self.inside.next _ _ c.args.at.now.place c.finish_at.ensures.capacity c.self.invariant)

pub returns : goal.returns
returns c =
    let at = c.args.at.now in
    let places = c.self.inside.places.items in
    let next = c.self.inside.next in
    let ok = c.self.invariant in
    ap (λ (ps : List Place). all_of (map place_key ps) (held ps) next) c.finish_at.ensures.items
    ∙ all_changed at places next ok.rise ok.each (is_at at c.self.view_is c.requires) (with_finish c.args.finish c.args.counts)
    ∙ all_finished at.job c.args.finish c.args.counts (map place_key places) (held places) next (rising_held 0 places next ok.rise ok.each) (whole_held places ok.each)
    ∙ ap (with_end at.job c.args.finish c.args.counts) c.self.view_is
