-- The slots so far and those that are left are those of the whole list.
use Rattle.std.proofs.Common.{◌≡◌, ◌++◌, drop}
use Rattle.farm_depends.specs.Completing.{blocked_among}
use Rattle.farm_depends.proofs.completing.blocked_among.Given as goal

abbrev pub invariant-loop-slot : goal.invariant-loop-slot
invariant-loop-slot l = l.blocked ++ blocked_among l.books.farm.slots (drop l.slot-index l.slots) ≡ blocked_among l.books.farm.slots l.slots
