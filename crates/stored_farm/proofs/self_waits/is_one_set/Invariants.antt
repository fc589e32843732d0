use Rattle.std.proofs.Common.{◌≡◌, drop}
use Rattle.std.specs.List.{list_any}
use Rattle.stored_farm.specs.Ends.{is_set}
use Rattle.stored_farm.proofs.self_waits.is_one_set.Given as goal

abbrev pub invariant-loop-slot : goal.invariant-loop-slot
invariant-loop-slot l = list_any (is_set l.flags) (drop l.slot-index l.slots) ≡ list_any (is_set l.flags) l.slots
