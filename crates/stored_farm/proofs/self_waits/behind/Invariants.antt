use Rattle.std.proofs.Common.{◌≡◌, ℕ, ◌≤◌, false, take}
use Rattle.stored_farm.specs.SelfWaits.{is_among}
use Rattle.stored_farm.proofs.self_waits.behind.Given as goal

abbrev pub invariant-loop-slot : goal.invariant-loop-slot
invariant-loop-slot l = (slot : ℕ) → l.end ≤ slot → is_among (take l.slot-index l.slots) slot ≡ false
