use Rattle.std.proofs.Common.{◌≡◌, ◌≤◌, ◌*◌, length, take}
use Rattle.std.specs.List.{sum_by}
use Rattle.row_index.specs.Index.{LayerKnown}
use Rattle.stored_rows.proofs.layer_row.count_numbers.Given as goal

abbrev pub invariant-loop-layer : goal.invariant-loop-layer
invariant-loop-layer l = record {
  told : l.count ≡ sum_by (λ (k : LayerKnown). length k.numbers) (take l.layer-index l.layers);
  few : l.count ≤ 10000 * l.layer-index;
}
