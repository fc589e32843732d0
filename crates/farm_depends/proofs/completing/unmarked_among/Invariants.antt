-- The slots so far and those that are left are those of the whole list.
use Rattle.std.proofs.Common.{◌≡◌, ◌++◌, drop}
use Rattle.farm_depends.specs.Completing.{unmarked_among}
use Rattle.farm_depends.proofs.completing.unmarked_among.Given as goal

abbrev pub invariant-loop-slot : goal.invariant-loop-slot
invariant-loop-slot l = l.unmarked ++ unmarked_among l.marks (drop l.slot-index l.slots) ≡ unmarked_among l.marks l.slots
