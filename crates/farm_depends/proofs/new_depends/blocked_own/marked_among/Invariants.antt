use Rattle.std.proofs.Common.{◌≡◌, take, filter}
use Rattle.farm_types.specs.Groups.{all_slots}
use Rattle.depend_graph.specs.Graph.{is_flagged}
use Rattle.farm_depends.proofs.new_depends.blocked_own.marked_among.Given as goal

abbrev pub invariant-loop-layer : goal.invariant-loop-layer
invariant-loop-layer l = l.marked ≡ filter (is_flagged l.marks) (all_slots (take l.layer-index l.layers))
