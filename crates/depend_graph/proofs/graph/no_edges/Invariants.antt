use Rattle.std.proofs.Common.{◌≡◌, replicate, None}
use Rattle.depend_graph.proofs.graph.no_edges.Given as goal

abbrev pub invariant-loop : goal.invariant-loop
invariant-loop l = l.edges.items ≡ replicate l.counter None
