use Rattle.std.proofs.Common.{◌≡◌, ℕ, false, nat_eq, List, Some}
use Rattle.indexmap.specs.IndexMap.{get}
use Rattle.depend_edges.specs.Ways.{IsEdgeOf, edge_lists}
use Rattle.depend_edges.specs.declared.links.EdgeAt.{EdgeAt}
use Rattle.depend_graph.specs.Graph.{GraphLists, is_flagged}
use Rattle.depend_graph.specs.Meeting.{met_lists}
use Rattle.depend_graph.specs.Trial.{IsFollowing}
use Rattle.depend_graph.specs.Tries.{Tries}
use Rattle.depend_graph.proofs.ProgressLemmas.Steps.{steps_left}
use Rattle.depend_graph.proofs.trials.trying.try_way.Given as goal

abbrev pub invariant-loop-next : goal.invariant-loop-next
invariant-loop-next l = record {
  on_way : (a : EdgeAt) → l.next ≡ Some a → IsEdgeOf (edge_lists l.depends) l.fn.slot a;
  following : (unmet : List ℕ) (g : GraphLists) → is_flagged g.done l.fn.slot ≡ false → (t : Tries l.depends unmet l.fn.trial g)
      → IsFollowing l.depends unmet g.done l.fn.slot t.news l.next (get nat_eq l.trial.lacking) l.trial.freed.items (met_lists l.trial.meeting);
}

abbrev pub decreases-loop-next : goal.decreases-loop-next
decreases-loop-next l = steps_left l.next
