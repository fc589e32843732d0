use Rattle.std.proofs.Common.{◌≡◌, ◌++◌, take, filter}
use Rattle.depend_graph.specs.Graph.{is_flagged}
use Rattle.farm_depends.proofs.new_depends.blocked_own.add_marked.Given as goal

abbrev pub invariant-loop-slot : goal.invariant-loop-slot
invariant-loop-slot l = l.marked ≡ l.fn.marked ++ filter (is_flagged l.marks) (take l.slot-index l.slots)
