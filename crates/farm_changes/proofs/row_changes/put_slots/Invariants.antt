-- The changes so far and those of the slots that are left are those of all slots.
use Rattle.std.proofs.Common.{◌≡◌, ◌++◌, drop, map}
use Rattle.farm_changes.specs.RowChanges.{slot_put}
use Rattle.farm_changes.proofs.row_changes.put_slots.Given as goal

abbrev pub invariant-loop-change : goal.invariant-loop-change
invariant-loop-change l = l.into.items ++ map slot_put (drop l.change-index l.slots) ≡ l.fn.into.items ++ map slot_put l.slots
