use Rattle.std.proofs.Common.{◌≡◌, ℕ, ◌<◌, ◌||◌, length, take}
use Rattle.stored_farm.specs.Ends.{is_set}
use Rattle.stored_farm.specs.SelfWaits.{is_among}
use Rattle.stored_farm.proofs.flags.set_all.Given as goal

abbrev pub invariant-loop-slot : goal.invariant-loop-slot
invariant-loop-slot l = record {
  flags : (slot : ℕ) → slot < length l.fn.flags.items → is_set l.flags.items slot ≡ (is_set l.fn.flags.items slot || is_among (take l.slot-index l.slots) slot);
  count : length l.flags.items ≡ length l.fn.flags.items;
}
