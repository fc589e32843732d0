-- The groups so far and those of the frames that are left are all.
use Rattle.std.proofs.Common.{◌≡◌, ◌++◌}
use Rattle.std.specs.Slice.Iter.{iter_rest}
use Rattle.farm_types.specs.Groups.{groups_in_step}
use Rattle.depend_kinds.proofs.pairs.groups_in_step.Given as goal

abbrev pub invariant-loop-slot : goal.invariant-loop-slot
invariant-loop-slot l = l.groups ++ groups_in_step l.position l.any (iter_rest l.slot-iterator.a) (iter_rest l.slot-iterator.b) ≡ groups_in_step 1 l.any l.slots l.targets
