-- What is left decides.
use Rattle.std.proofs.Common.{◌≡◌, drop, map}
use Rattle.farm_keeper.specs.Rows.{key_of}
use Rattle.keeper_sqlite.specs.Told.{rises_from}
use Rattle.keeper_sqlite.proofs.reading.rises_after.Given as goal

abbrev pub invariant-loop-row : goal.invariant-loop-row
invariant-loop-row l = rises_from (l.kind_before, l.id_before) (map key_of (drop l.row-index l.rows)) ≡ rises_from (l.fn.kind, l.fn.id) (map key_of l.fn.rows)
