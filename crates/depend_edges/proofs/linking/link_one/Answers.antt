use Rattle.std.proofs.Common.{◌≡◌, List, Option, None, Some, sym, ap, ◌∙◌}
use Rattle.std.specs.List.{slice_get, slice_set}
use Rattle.std.proofs.lemmas.Option.{same_Some}
use Rattle.depend_edges.specs.Bare.{changed_edge, with_next, with_prev}
use Rattle.depend_edges.specs.Listed.{ListedLists}
use Rattle.depend_edges.specs.declared.links.Edge.{Edge}
use Rattle.depend_edges.specs.declared.links.EdgeAt.{EdgeAt}
use Rattle.depend_edges.proofs.linking.link_one.Goals as goal

pub returns-clause-linked : goal.returns-clause-linked
returns-clause-linked c = λ d e at at_e.
    let edge = c.edge_in-edge.result in
    let was : slice_get d.edges c.args.at.edge ≡ Some edge = c.edge_in-edge.ensures d (ap (λ (ds : List ListedLists). slice_get ds c.args.at.depend) c.as_slice.ensures.value ∙ at) in
    let same : edge ≡ e = same_Some edge e (sym was ∙ at_e) in
    let next = c.first_of-next.result in
    record {
      next = next;
      was_first = ap (slice_get c.args.first.now.items) (ap (λ (x : Edge). x.slot) (sym same)) ∙ (ap (λ (fs : List (Option EdgeAt)). slice_get fs edge.slot) (sym c.as_slice-2.ensures.value) ∙ c.first_of-next.ensures);
      first_is = c.set_first.ensures ∙ ap (λ (x : Edge). slice_set c.args.first.now.items x.slot (Some c.args.at)) same;
      depends_are =
          c.set_next_in.ensures.depends
          ∙ (ap (λ (ds : List ListedLists). changed_edge (Some c.args.at) (with_next next) ds) c.set_prev_in-2.ensures.depends
          ∙ ap (λ (ds : List ListedLists). changed_edge (Some c.args.at) (with_next next) (changed_edge (Some c.args.at) (with_prev None) ds)) c.set_prev_in.ensures.depends);
    }
