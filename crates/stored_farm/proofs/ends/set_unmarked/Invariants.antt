use Rattle.std.proofs.Common.{◌≡◌, ℕ, ◌<◌, ◌||◌, length, take}
use Rattle.stored_farm.specs.Ends.{is_set, waits_unmarked}
use Rattle.stored_farm.proofs.ends.set_unmarked.Given as goal

abbrev pub invariant-loop-group : goal.invariant-loop-group
invariant-loop-group l = record {
  flags : (slot : ℕ) → slot < length l.fn.flags.items → is_set l.flags.items slot ≡ (is_set l.fn.flags.items slot || waits_unmarked l.met l.depend (take l.group-index l.groups) slot);
  count : length l.flags.items ≡ length l.fn.flags.items;
}
