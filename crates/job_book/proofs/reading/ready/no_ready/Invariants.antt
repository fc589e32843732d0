use Rattle.std.proofs.Common.{◌≡◌, ℕ, List, [], Some, length}
use Rattle.std.specs.List.{slice_get}
use Rattle.job_book.proofs.reading.ready.no_ready.Given as goal

abbrev pub invariant-loop-show : goal.invariant-loop-show
invariant-loop-show l = record {
  count : length l.ready.items ≡ l._show;
  none : (show : ℕ) (ks : List ℕ) → slice_get l.ready.items show ≡ Some ks → ks ≡ [];
}
