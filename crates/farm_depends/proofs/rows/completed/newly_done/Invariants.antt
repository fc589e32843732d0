-- The slots so far and those of the changes that are left are those of all changes.
use Rattle.std.proofs.Common.{◌≡◌, ◌++◌, drop}
use Rattle.farm_depends.specs.Completing.{newly_done}
use Rattle.farm_depends.proofs.rows.completed.newly_done.Given as goal

abbrev pub invariant-loop-change : goal.invariant-loop-change
invariant-loop-change l = l.done ++ newly_done (drop l.change-index l.rows) ≡ newly_done l.rows
