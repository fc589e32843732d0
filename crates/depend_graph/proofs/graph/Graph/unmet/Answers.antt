use Rattle.std.proofs.Common.{ℕ, List, ap, ◌∙◌}
use Rattle.farm_types.specs.Sums.{total_at}
use Rattle.depend_graph.specs.Graph.{GraphLists, unmet_of}
use Rattle.depend_graph.proofs.GoingLemmas.Thinned.{there_unmet}
use Rattle.depend_graph.proofs.graph.Graph.unmet.Goals as goal

pub returns : goal.returns
returns c =
    c.unmet_at.ensures
    ∙ (ap (λ (ns : List ℕ). total_at ns c.args.slot) c.as_slice.ensures.value
    ∙ (c.self.invariant.tally.sums.unmet_kept c.args.slot
    ∙ (there_unmet c.self.inside.tally.depends.items c.self.invariant.tally.depends c.args.slot ∙ ap (λ (g : GraphLists). unmet_of g.depends c.args.slot) c.self.view_is)))
