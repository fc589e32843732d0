use Rattle.std.proofs.Common.{◌≡◌, None, Option, replicate, ap, ◌∙◌, arith}
use Rattle.farm_types.specs.declared.limits.TheConstants.{SLOT_LIMIT}
use Rattle.depend_edges.specs.declared.links.EdgeAt.{EdgeAt}
use Rattle.depend_graph.proofs.graph.no_edges.Goals as goal

pub returns : goal.returns
returns c =
    let all : c.loop.counter ≡ SLOT_LIMIT = omega (arith, c.loop-test.false, c.loop.auto.counter-end) in
    c.loop.invariant ∙ ap (λ n. replicate {A = Option EdgeAt} n None) all
