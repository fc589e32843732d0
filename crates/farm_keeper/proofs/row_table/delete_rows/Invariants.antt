-- What is left to delete leaves what deleting all leaves.
use Rattle.std.proofs.Common.{◌≡◌, drop}
use Rattle.farm_keeper.specs.Rows.{delete_all}
use Rattle.farm_keeper.specs.Table.{rows_in}
use Rattle.farm_keeper.proofs.row_table.delete_rows.Given as goal

abbrev pub invariant-loop-key : goal.invariant-loop-key
invariant-loop-key l = delete_all (drop l.key-index l.keys) (rows_in l.table.entries) ≡ delete_all l.keys (rows_in l.fn.table.entries)
