-- The rows so far are fit.
use Rattle.std.proofs.Common.{take}
use Rattle.std.specs.List.{All}
use Rattle.keeper_sqlite.specs.Told.{HasNumbers}
use Rattle.keeper_sqlite.proofs.reading.test_rows.Given as goal

abbrev pub invariant-loop-row : goal.invariant-loop-row
invariant-loop-row l = All HasNumbers (take l.row-index l.rows)
