use Rattle.std.proofs.Common.{◌≡◌, ◌++◌, drop, map}
use Rattle.std.specs.List.{filter}
use Rattle.store_law.specs.Stored.{is_migrated, stored_row}
use Rattle.recovery.proofs.migration.migrated_rows.Given as goal

abbrev pub invariant-loop-row : goal.invariant-loop-row
invariant-loop-row l = l.puts ++ map stored_row (filter is_migrated (drop l.row-index l.rows)) ≡ map stored_row (filter is_migrated l.rows)
