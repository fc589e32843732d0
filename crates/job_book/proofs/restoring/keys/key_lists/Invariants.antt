use Rattle.std.proofs.Common.{◌≡◌, ◌++◌, ℕ, List, Some, drop, length}
use Rattle.std.specs.List.{slice_get}
use Rattle.farm_types.specs.declared.limits.TheConstants.{MOST_SHOWS}
use Rattle.job_book.specs.Restored.{keys_beside}
use Rattle.job_book.proofs.restoring.keys.key_lists.Given as goal

abbrev pub invariant-loop-at : goal.invariant-loop-at
invariant-loop-at l = record {
  count : length l.lists.items ≡ MOST_SHOWS;
  keys : (show : ℕ) (ks : List ℕ) → slice_get l.lists.items show ≡ Some ks → ks ++ keys_beside show (drop l.at l.rows) (drop l.at l.counts) ≡ keys_beside show l.rows l.counts;
}
