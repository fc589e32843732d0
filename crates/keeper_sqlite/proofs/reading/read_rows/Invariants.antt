-- The rows so far are read.
use Rattle.std.proofs.Common.{◌≡◌, ◌∷◌, map, take}
use Rattle.sqlite_value.specs.declared.value.Value.TheVariants.{Null}
use Rattle.farm_keeper.specs.Rows.{entry_of}
use Rattle.keeper_sqlite.specs.Told.{entry_in}
use Rattle.keeper_sqlite.proofs.reading.read_rows.Given as goal

abbrev pub invariant-loop-row : goal.invariant-loop-row
invariant-loop-row l = map entry_of l.list ≡ map (λ row. entry_in (Null ∷ row)) (take l.row-index l.rows)
