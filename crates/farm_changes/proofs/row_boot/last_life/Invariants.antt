-- The last of those that are left, and before them the last so far, is the last of all.
use Rattle.std.proofs.Common.{◌≡◌, None, drop}
use Rattle.farm_changes.specs.RowChanges.{last_life}
use Rattle.farm_changes.proofs.row_boot.last_life.Given as goal

abbrev pub invariant-loop-entry : goal.invariant-loop-entry
invariant-loop-entry l = last_life l.fn.host (drop l.entry-index l.lives) l.life ≡ last_life l.fn.host l.lives None
