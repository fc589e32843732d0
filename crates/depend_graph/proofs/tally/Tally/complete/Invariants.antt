use Rattle.std.proofs.Common.{◌≡◌}
use Rattle.std.specs.Vec.{vec_capacity}
use Rattle.depend_graph.specs.Flow.{flow_in}
use Rattle.depend_graph.specs.Passing.{IsPassing}
use Rattle.depend_graph.proofs.ProgressLemmas.Steps.{steps_left}
use Rattle.depend_graph.proofs.tally.Tally.complete.Given as goal

abbrev pub invariant-loop-next : goal.invariant-loop-next
invariant-loop-next l = record {
  passing : IsPassing l.fn.done.items l.fn.slot l.fn.self.depends.items l.next (flow_in l.self l.opened);
  capacity : vec_capacity l.self.depends ≡ vec_capacity l.fn.self.depends;
}

abbrev pub decreases-loop-next : goal.decreases-loop-next
decreases-loop-next l = steps_left l.next
