use Rattle.std.proofs.Common.{◌≡◌, ◌++◌, map, drop}
use Rattle.depend_graph.specs.Watches.{mark_for}
use Rattle.depend_graph.proofs.group_marks.marks_for.Given as goal

abbrev pub invariant-loop-group : goal.invariant-loop-group
invariant-loop-group l = l.marks ++ map (mark_for l.fn.depend) (drop l.group-index l.groups) ≡ map (mark_for l.fn.depend) l.groups
