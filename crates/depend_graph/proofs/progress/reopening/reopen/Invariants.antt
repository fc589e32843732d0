use Rattle.std.proofs.Common.{◌≡◌}
use Rattle.std.specs.Vec.{vec_capacity}
use Rattle.depend_graph.specs.Passing.{IsReopening}
use Rattle.depend_graph.proofs.ProgressLemmas.Steps.{steps_left}
use Rattle.depend_graph.proofs.progress.reopening.reopen.Given as goal

abbrev pub invariant-loop-next : goal.invariant-loop-next
invariant-loop-next l = record {
  reopening : IsReopening l.fn.done.items l.fn.slot l.fn.depends.items l.next l.depends.items;
  capacity : vec_capacity l.depends ≡ vec_capacity l.fn.depends;
}

abbrev pub decreases-loop-next : goal.decreases-loop-next
decreases-loop-next l = steps_left l.next
