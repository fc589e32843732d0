use Rattle.std.proofs.Common.{ap, ◌∙◌}
use Rattle.depend_graph.specs.Graph.{GraphLists, groups_left}
use Rattle.depend_graph.proofs.GoingLemmas.Thinned.{there_left}
use Rattle.depend_graph.proofs.graph.Graph.groups_left.Goals as goal

pub returns-clause-value : goal.returns-clause-value
returns-clause-value c =
    c.self.invariant.tally.sums.left_kept ∙ (there_left c.self.inside.tally.depends.items c.self.invariant.tally.depends ∙ ap (λ (g : GraphLists). groups_left g.depends) c.self.view_is)
