use Rattle.std.proofs.Common.{◌≡◌, ◌++◌, drop, map}
use Rattle.farm_rows.specs.Recovery.{slot_or}
use Rattle.stored_rows.proofs.readers.slots_or.Given as goal

abbrev pub invariant-loop-slot : goal.invariant-loop-slot
invariant-loop-slot l = l.all ++ map (slot_or l.none) (drop l.slot-index l.slots) ≡ map (slot_or l.none) l.slots
