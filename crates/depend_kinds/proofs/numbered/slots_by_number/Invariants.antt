-- A slot that isn't found yet is that of the first of the frames that are left.
use Rattle.std.proofs.Common.{◌≡◌, ℤ}
use Rattle.std.specs.Ordering.{int_eq}
use Rattle.std.specs.Slice.Iter.{iter_rest}
use Rattle.indexmap.specs.IndexMap.{get}
use Rattle.farm_types.specs.Groups.{slot_numbered}
use Rattle.depend_kinds.specs.Found.{found_or}
use Rattle.depend_kinds.proofs.numbered.slots_by_number.Given as goal

abbrev pub invariant-loop-number : goal.invariant-loop-number
invariant-loop-number l = (number : ℤ) → found_or (get int_eq l.by_number number) (slot_numbered number (iter_rest l.number-iterator.a) (iter_rest l.number-iterator.b)) ≡ slot_numbered number l.numbers l.slots
