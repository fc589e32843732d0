use Rattle.std.proofs.Common.{◌≡◌, ◌++◌, drop, map}
use Rattle.farm_depends.specs.FollowRows.{delete_mark}
use Rattle.farm_finish.proofs.rows_gone.marks_go.Given as goal

abbrev pub invariant-loop-mark : goal.invariant-loop-mark
invariant-loop-mark l = l.changes.items ++ map delete_mark (drop l.mark-index l.marks) ≡ l.fn.changes.items ++ map delete_mark l.marks
