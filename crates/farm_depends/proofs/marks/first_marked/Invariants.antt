use Rattle.std.proofs.Common.{◌≡◌, drop}
use Rattle.std.specs.List.{find}
use Rattle.depend_graph.specs.Graph.{is_flagged}
use Rattle.farm_depends.proofs.marks.first_marked.Given as goal

abbrev pub invariant-loop-slot : goal.invariant-loop-slot
invariant-loop-slot l = find (is_flagged l.marks) (drop l.slot-index l.slots) ≡ find (is_flagged l.marks) l.slots
