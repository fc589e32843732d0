use Rattle.std.proofs.Common.{◌≡◌, drop}
use Rattle.std.specs.List.{list_any}
use Rattle.depend_graph.specs.Graph.{is_flagged}
use Rattle.depend_graph.proofs.graph.is_any_done.Given as goal

abbrev pub invariant-loop-slot : goal.invariant-loop-slot
invariant-loop-slot l = list_any (is_flagged l.done) (drop l.slot-index l.slots) ≡ list_any (is_flagged l.done) l.slots
