use Rattle.std.proofs.Common.{◌<◌, List, ℕ, length, slice_set, sym, subst, arith}
use Rattle.place_set.specs.Inside.{Counted}
use Rattle.place_set.proofs.Counts.{was_other, count_changes, counted_put}
use Rattle.place_set.proofs.set.PlaceSet.put.Goals as goal

pub change_count-requires-clause-changes : goal.change_count-requires-clause-changes
change_count-requires-clause-changes c =
    let marks = c.self.inside.marks.items in
    let within : c.args.place < length marks = omega arith in
    count_changes marks c.self.inside.counts.items c.args.place c.args.there c.self.invariant within
    (was_other marks c.args.place _ c.args.there within c.index.ensures c.if-index-there.true)

pub invariant_of-self : goal.invariant_of-self
invariant_of-self c =
    let marks = c.self.inside.marks.items in
    let within : c.args.place < length marks = omega arith in
    subst (λ (counts : List ℕ). Counted (slice_set marks c.args.place c.args.there) counts) (sym c.change_count.ensures)
    (counted_put marks c.self.inside.counts.items c.args.place c.args.there c.self.invariant within
    (was_other marks c.args.place _ c.args.there within c.index.ensures c.if-index-there.true))
