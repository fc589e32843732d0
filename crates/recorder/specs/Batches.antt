-- A batch with one change more.
use Rattle.std.specs.Prelude.{[], ◌∷◌, ◌++◌}
use Rattle.farm_rows.specs.declared.row_change.RowChange.{RowChange}
use Rattle.farm_keeper.specs.declared.row.Batch.{Batch}
use Rattle.store_law.specs.Stored.{deletes_in, puts_in}

abbrev pub added : Batch → RowChange → Batch
added batch change = record { puts = batch.puts ++ puts_in (change ∷ []); deletes = batch.deletes ++ deletes_in (change ∷ []) }
