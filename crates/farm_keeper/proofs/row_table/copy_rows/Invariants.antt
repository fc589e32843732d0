-- The rows so far and those that are left are all of them.
use Rattle.std.proofs.Common.{◌≡◌, ◌++◌, map}
use Rattle.farm_keeper.specs.Rows.{entry_of}
use Rattle.farm_keeper.proofs.row_table.copy_rows.Given as goal

abbrev pub invariant-loop-key : goal.invariant-loop-key
invariant-loop-key l = map entry_of l.rows ++ l.key-iterator ≡ l.table.entries
