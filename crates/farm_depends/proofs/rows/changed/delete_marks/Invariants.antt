use Rattle.std.proofs.Common.{◌≡◌, ◌++◌, map, drop}
use Rattle.farm_depends.specs.FollowRows.{delete_mark}
use Rattle.farm_depends.proofs.rows.changed.delete_marks.Given as goal

abbrev pub invariant-loop-mark : goal.invariant-loop-mark
invariant-loop-mark l = l.rows.items ++ map delete_mark (drop l.mark-index l.marks) ≡ l.fn.rows.items ++ map delete_mark l.marks
