use Rattle.std.proofs.Common.{◌≡◌}
use Rattle.std.specs.Vec.{vec_capacity}
use Rattle.depend_graph.specs.Flow.{flow_in}
use Rattle.depend_graph.specs.Passing.{IsDropping}
use Rattle.depend_graph.proofs.tally.Tally.meet_all.Given as goal

abbrev pub invariant-loop-group : goal.invariant-loop-group
invariant-loop-group l = record {
  dropping : IsDropping l.fn.self.depends.items l.place l.group (flow_in l.self l.opened);
  capacity : vec_capacity l.self.depends ≡ vec_capacity l.fn.self.depends;
}
