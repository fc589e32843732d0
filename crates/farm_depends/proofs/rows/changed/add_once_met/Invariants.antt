use Rattle.std.proofs.Common.{◌≡◌, ◌++◌, map, drop}
use Rattle.farm_depends.specs.FollowRows.{once_marks, put_mark}
use Rattle.farm_depends.proofs.rows.changed.add_once_met.Given as goal

abbrev pub invariant-loop-group : goal.invariant-loop-group
invariant-loop-group l =
    l.rows.items ++ map put_mark (once_marks l.depends.graph.done l.depend (drop l.group-index l.groups)) ≡ l.fn.rows.items ++ map put_mark (once_marks l.depends.graph.done l.depend l.groups)
