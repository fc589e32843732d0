use Rattle.std.proofs.Common.{◌∙◌, List, map, option_map, sym, ap, subst}
use Rattle.std.specs.Vec.{vec_capacity}
use Rattle.job_entries.specs.declared.entries.Place.{Place}
use Rattle.job_entries.specs.Counting.{CanMove}
use Rattle.job_entries.specs.Entries.{KeepsEntries, all_of, counts_held, counts_in, held, place_key, with_moved, with_moved_in}
use Rattle.job_entries.proofs.Held.{found_held, rising_held}
use Rattle.job_entries.proofs.HeldKept.{all_changed, all_moved, changed_places, is_at, moved_keeps}
use Rattle.job_entries.proofs.HeldLists.{can_here, counts_found}
use Rattle.job_entries.proofs.entries.Entries.recount.Goals as goal

pub recount_at-requires : goal.recount_at-requires
recount_at-requires c =
    let at = c.args.at.now in
    let places = c.self.inside.places.items in
    let ok = c.self.invariant in
    let here = found_held at places c.self.inside.next ok.rise ok.each (is_at at c.self.view_is c.requires.at) in
    can_here (CanMove c.args.old c.args.new) _ _ (ap (option_map counts_held) here ∙ counts_found at.job (held places) ∙ ap (counts_in at.job) c.self.view_is) c.requires.can

pub invariant_of-self : goal.invariant_of-self
invariant_of-self c =
    subst (λ (ps : List Place). KeepsEntries ps c.self.inside.next (vec_capacity c.recount_at.new.places)) (sym c.recount_at.ensures.items)
    (changed_places (with_moved c.args.old c.args.new) (moved_keeps c.args.old c.args.new) c.self.inside.places.items c.self.inside.next _ _ c.args.at.now.place c.recount_at.ensures.capacity c.self.invariant)

pub returns : goal.returns
returns c =
    let at = c.args.at.now in
    let places = c.self.inside.places.items in
    let next = c.self.inside.next in
    let ok = c.self.invariant in
    ap (λ (ps : List Place). all_of (map place_key ps) (held ps) next) c.recount_at.ensures.items
    ∙ all_changed at places next ok.rise ok.each (is_at at c.self.view_is c.requires.at) (with_moved c.args.old c.args.new)
    ∙ all_moved (map place_key places) at.job c.args.old c.args.new (held places) next (rising_held 0 places next ok.rise ok.each)
    ∙ ap (with_moved_in at.job c.args.old c.args.new) c.self.view_is
