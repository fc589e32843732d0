use Rattle.std.proofs.Common.{◌≡◌, List, eqb, map, sym, ap, subst, ◌∙◌}
use Rattle.std.specs.List.{list_any, slice_get}
use Rattle.std.proofs.lemmas.Bool.{eqb-true}
use Rattle.farm_types.proofs.Lists.{and_both, slice_get_below}
use Rattle.depend_edges.specs.Listed.{ListedLists, has_number, is_there}
use Rattle.depend_graph.specs.Graph.{GraphLists, HasOpened, Watch, has_depend, met_where, without_depend}
use Rattle.depend_graph.specs.Inside.{there_of, watches}
use Rattle.depend_graph.proofs.GoingLemmas.Thinned.{mapped_there, opened_there}
use Rattle.depend_graph.proofs.ProgressLemmas.Unchanged.{numbers_any}
use Rattle.depend_graph.proofs.graph.Graph.drop_depend.Goals as goal

pub place_of-place-requires-clause-there : goal.place_of-place-requires-clause-there
place_of-place-requires-clause-there c =
    ap (list_any (has_number c.args.depend)) c.as_slice.ensures.value
    ∙ (sym (numbers_any c.args.depend c.self.inside.tally.depends.items) ∙ (ap (λ (g : GraphLists). has_depend g c.args.depend) c.self.view_is ∙ c.requires))

pub returns-clause-graph : goal.returns-clause-graph
returns-clause-graph c =
    let ds = c.self.inside.tally.depends.items in
    let news = c.meet_all.new.self.depends.items in
    let place = c.place_of-place.result in
    let below = c.place_of-place.ensures.there in
    let d = slice_get_below c.as_slice.result.now place below in
    let named = and_both (is_there d.0) (eqb d.0.depend c.args.depend) (c.place_of-place.ensures.number d.0 d.1) in
    let number = eqb-true d.0.depend c.args.depend named.1 in
    let at = ap (λ (xs : List ListedLists). slice_get xs place) (sym c.as_slice.ensures.value) ∙ d.1 in
    let met : watches news ≡ map (met_where c.args.depend) (watches ds) = c.meet_all.ensures.watches d.0 at named.0 ∙ ap (λ n. map (met_where n) (watches ds)) number in
    (λ i. record { done = c.self.inside.done.items; depends = mapped_there ds news c.meet_all.ensures.there (met_where c.args.depend) met i })
    ∙ ap (λ (g : GraphLists). without_depend g c.args.depend) c.self.view_is

pub returns-clause-opened : goal.returns-clause-opened
returns-clause-opened c =
    let ds = c.self.inside.tally.depends.items in
    let news = c.meet_all.new.self.depends.items in
    subst (λ (ws : List Watch). HasOpened ws (watches (there_of news)) c.meet_all.new.opened) (ap (λ (g : GraphLists). g.depends) c.self.view_is)
    (opened_there ds news c.self.invariant.tally.depends c.meet_all.ensures.kept.depends c.meet_all.ensures.there c.meet_all.new.opened c.meet_all.ensures.opened)
