use Rattle.std.proofs.Common.{◌≡◌, ◌≤◌, ◌+◌, ◌++◌, length}
use Rattle.std.specs.Vec.{vec_capacity}
use Rattle.std.specs.Vec.Iter.{into_iter_items}
use Rattle.farm_types.specs.Jobs.{layer_rows}
use Rattle.job_book.proofs.placement.place.add_layers.Given as goal

abbrev pub invariant-loop-layer : goal.invariant-loop-layer
invariant-loop-layer l = record {
  rows : l.rows.items ++ layer_rows l.job l.limits l.place (into_iter_items l.layer-iterator) ≡ l.fn.rows.items ++ layer_rows l.job l.limits 0 l.fn.layers.items;
  count : l.place + length (into_iter_items l.layer-iterator) ≡ length l.fn.layers.items;
  fits : length l.rows.items + length (into_iter_items l.layer-iterator) ≤ vec_capacity l.rows;
  capacity : vec_capacity l.rows ≡ vec_capacity l.fn.rows;
}
