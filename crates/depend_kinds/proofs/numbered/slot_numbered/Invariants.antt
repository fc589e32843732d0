-- The slot is that of the first of the frames that are left.
use Rattle.std.proofs.Common.{◌≡◌}
use Rattle.std.specs.Slice.Iter.{iter_rest}
use Rattle.farm_types.specs.Groups.{slot_numbered}
use Rattle.depend_kinds.proofs.numbered.slot_numbered.Given as goal

abbrev pub invariant-loop-other : goal.invariant-loop-other
invariant-loop-other l = record {
  can_next : (goal.iterator-loop-other).can_next l.other-iterator;
  is_finite : (goal.iterator-loop-other).is_finite l.other-iterator;
  first : slot_numbered l.number (iter_rest l.other-iterator.a) (iter_rest l.other-iterator.b) ≡ slot_numbered l.number l.numbers l.slots;
}
