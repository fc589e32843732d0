use Rattle.std.proofs.Common.{◌≡◌, ℕ, ◌<◌, ◌||◌, length}
use Rattle.std.specs.Slice.Iter.{iter_rest}
use Rattle.stored_farm.specs.Ends.{is_set, waits_unmet}
use Rattle.stored_farm.proofs.ends.unmet_flags.Given as goal

abbrev pub invariant-loop-depend : goal.invariant-loop-depend
invariant-loop-depend l = record {
  flags : (slot : ℕ) → slot < l.count → (is_set l.flags.items slot || waits_unmet l.met (iter_rest l.depend-iterator.a) (iter_rest l.depend-iterator.b) slot) ≡ waits_unmet l.met l.depends l.groups slot;
  count : length l.flags.items ≡ l.count;
}
