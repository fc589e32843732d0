-- There is room for the rows that are left, and they leave what all leave.
use Rattle.std.proofs.Common.{◌≡◌, ◌≤◌, length}
use Rattle.std.specs.Vec.Iter.{into_iter_items}
use Rattle.indexmap.specs.IndexMap.{spare}
use Rattle.farm_keeper.specs.Rows.{put_all}
use Rattle.farm_keeper.specs.Table.{rows_in}
use Rattle.farm_keeper.proofs.row_table.put_rows.Given as goal

abbrev pub invariant-loop-row : goal.invariant-loop-row
invariant-loop-row l = record {
  can : (goal.iterator-loop-row).can_next l.row-iterator;
  finite : (goal.iterator-loop-row).is_finite l.row-iterator;
  room : length (into_iter_items l.row-iterator) ≤ spare l.table;
  put : put_all (into_iter_items l.row-iterator) (rows_in l.table.entries) ≡ put_all l.fn.rows.items (rows_in l.fn.table.entries);
}
