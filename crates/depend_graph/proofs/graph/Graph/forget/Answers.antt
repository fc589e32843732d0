use Rattle.std.proofs.Common.{◌≡◌, List, Some, false, sym, ap, ◌∙◌}
use Rattle.std.specs.List.{list_any, slice_get}
use Rattle.farm_types.proofs.Lists.{slice_get_below}
use Rattle.depend_edges.specs.Listed.{ListedLists, has_number}
use Rattle.depend_graph.specs.Graph.{GraphLists, forgotten}
use Rattle.depend_graph.proofs.ComingLemmas.AddedDepend.{none_at}
use Rattle.depend_graph.proofs.GoingLemmas.Forgotten.{none_named}
use Rattle.depend_graph.proofs.graph.Graph.forget.Goals as goal

pub returns-in_default : goal.returns-in_default
returns-in_default c =
    let a = c.self.inside in
    let ds = a.tally.depends.items in
    let none : list_any (has_number c.args.depend) ds ≡ false = ap (list_any (has_number c.args.depend)) (sym c.as_slice.ensures.value) ∙ c.find_place.ensures.none c.in_default.is in
    let same = none_named c.args.depend ds (λ q e at named. none_at (has_number c.args.depend) ds q e none at named) in
    sym c.self.view_is ∙ ((λ i. record { done = a.done.items; depends = sym same i }) ∙ ap (λ (g : GraphLists). forgotten g c.args.depend) c.self.view_is)

pub returns : goal.returns
returns c =
    let place = c.in-Some.place in
    let d = slice_get_below c.as_slice.result.now place c.in-Some.ensures.there in
    let named = c.in-Some.ensures.number d.0 d.1 in
    let at : slice_get c.self.inside.tally.depends.items place ≡ Some d.0 = ap (λ (ds : List ListedLists). slice_get ds place) (sym c.as_slice.ensures.value) ∙ d.1 in
    (λ i. record { done = c.self.inside.done.items; depends = c.forget_at.ensures.watches c.args.depend d.0 at named i }) ∙ ap (λ (g : GraphLists). forgotten g c.args.depend) c.self.view_is
