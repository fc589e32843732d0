use Rattle.std.proofs.Common.{◌≡◌, ◌++◌, map}
use Rattle.std.specs.Vec.Iter.{into_iter_items}
use Rattle.farm_rows.specs.declared.farm_row.FarmRow.TheVariants as row
use Rattle.farm_books.proofs.rows.push_layers.Given as goal

-- the rows so far and those of what is left are all
abbrev pub invariant-loop-layer : goal.invariant-loop-layer
invariant-loop-layer l = l.rows.items ++ map row.Layer (into_iter_items l.layer-iterator) ≡ l.fn.rows.items ++ map row.Layer l.fn.layers.items
