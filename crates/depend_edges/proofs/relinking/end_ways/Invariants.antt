use Rattle.std.proofs.Common.{◌≡◌, ◌<◌, ℕ, Option, Some, None, length}
use Rattle.std.specs.List.{slice_get}
use Rattle.depend_edges.specs.declared.links.EdgeAt.{EdgeAt}
use Rattle.depend_edges.proofs.relinking.end_ways.Given as goal

abbrev pub invariant-loop-slot : goal.invariant-loop-slot
invariant-loop-slot l = record {
  none : (slot : ℕ) (o : Option EdgeAt) → slot < l.slot → slice_get l.first.items slot ≡ Some o → o ≡ None;
  length : length l.first.items ≡ length l.fn.first.items;
}
