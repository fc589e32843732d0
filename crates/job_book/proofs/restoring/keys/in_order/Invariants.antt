use Rattle.std.proofs.Common.{◌≡◌, ◌++◌, ℕ, List, Some, map}
use Rattle.std.specs.List.{slice_get}
use Rattle.std.specs.Vec.Iter.{into_iter_items}
use Rattle.job_index.specs.Keys.{sorted, AreKeys}
use Rattle.job_book.proofs.restoring.keys.in_order.Given as goal

abbrev pub invariant-loop-keys : goal.invariant-loop-keys
invariant-loop-keys l = record {
  made : l.ready.items ++ map sorted (into_iter_items l.keys-iterator) ≡ map sorted l.fn.lists.items;
  differ : (show : ℕ) (ks : List ℕ) → slice_get (into_iter_items l.keys-iterator) show ≡ Some ks → AreKeys ks;
}
