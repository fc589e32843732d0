use Rattle.std.proofs.Common.{◌≡◌, ℕ, ◌-◌, ◌++◌, List, Some, eqb, length, sym, ap, ◌∙◌}
use Rattle.std.specs.List.{count_by, list_any, slice_get}
use Rattle.std.proofs.lemmas.Bool.{eqb-true}
use Rattle.std.proofs.lemmas.Option.{slice_get_read}
use Rattle.std.proofs.lemmas.Result.{IfOk-weaker}
use Rattle.farm_types.specs.Sums.{total_at}
use Rattle.farm_types.proofs.Lists.{and_both}
use Rattle.depend_edges.specs.Listed.{ListedLists, has_number, is_there}
use Rattle.depend_graph.specs.Graph.{GraphLists, has_depend, unmet_of, without_depend}
use Rattle.depend_graph.specs.Trial.{is_at, waiters_left}
use Rattle.depend_graph.proofs.GoingLemmas.Thinned.{there_met, there_unmet}
use Rattle.depend_graph.proofs.ProgressLemmas.Unchanged.{numbers_any}
use Rattle.depend_graph.proofs.GoingLemmas.WaitersLeft.{without_counted}
use Rattle.depend_graph.proofs.graph.Graph.would_open_without.Goals as goal

pub place_of-place-requires-clause-there : goal.place_of-place-requires-clause-there
place_of-place-requires-clause-there c =
    ap (list_any (has_number c.args.depend)) c.as_slice.ensures.value
    ∙ (sym (numbers_any c.args.depend c.self.inside.tally.depends.items) ∙ (ap (λ (g : GraphLists). has_depend g c.args.depend) c.self.view_is ∙ c.requires))

pub free_left-requires-clause-within : goal.free_left-requires-clause-within
free_left-requires-clause-within c =
    let read = slice_get_read c.self.inside.tally.depends.items (length c.as_slice.result.now) c.place_of-place.result c.index.result.now (ap (λ (ds : List ListedLists). length ds) c.as_slice.ensures.value) c.place_of-place.ensures.there c.index.ensures in
    (c.self.invariant.tally.depends.listed c.place_of-place.result c.index.result.now read).groups_within

pub returns : goal.returns
returns c =
    let a = c.self.inside in
    let kept = c.self.invariant in
    let g = c.args.self.now in
    let place = c.place_of-place.result in
    let d = c.index.result.now in
    let read : slice_get a.tally.depends.items place ≡ Some d =
    slice_get_read a.tally.depends.items (length c.as_slice.result.now) place d (ap (λ (ds : List ListedLists). length ds) c.as_slice.ensures.value) c.place_of-place.ensures.there c.index.ensures in
    let named = and_both (is_there d) (eqb d.depend c.args.depend) (c.place_of-place.ensures.number d (ap (λ (ds : List ListedLists). slice_get ds place) c.as_slice.ensures.value ∙ read)) in
    let number : d.depend ≡ c.args.depend = eqb-true d.depend c.args.depend named.1 in
    let was : (slot : ℕ) → unmet_of g.depends slot ≡ total_at c.as_slice-2.result.now slot =
    λ slot.
    ap (λ (h : GraphLists). unmet_of h.depends slot) (sym c.self.view_is)
    ∙ (sym (there_unmet a.tally.depends.items kept.tally.depends slot) ∙ (sym (kept.tally.sums.unmet_kept slot) ∙ ap (λ (ns : List ℕ). total_at ns slot) (sym c.as_slice-2.ensures.value)))
    in
    let freed = c.as_slice-3.ensures.value ∙ (c.in_ok-free_left.ensures ∙ ap (λ (ss : List ℕ). ss ++ waiters_left d.groups d.counts) c.new-freed.ensures.items) in
    let then : (slot : ℕ) → unmet_of (without_depend g c.args.depend).depends slot ≡ total_at c.as_slice-2.result.now slot - count_by (is_at slot) c.as_slice-3.result.now =
    λ slot.
    ap (λ (h : GraphLists). unmet_of (without_depend h c.args.depend).depends slot) (sym c.self.view_is)
    ∙ (there_met a.tally.depends.items kept.tally.depends c.args.depend slot
    ∙ (without_counted a.tally.depends.items a.tally.unmet.items a.tally.left kept.tally.depends kept.tally.sums place d read named.0 c.args.depend number slot
    ∙ λ i. total_at (sym c.as_slice-2.ensures.value i) slot - count_by (is_at slot) (sym freed i)))
    in
    IfOk-weaker c.opened_by.result _ _ (λ slots opens. opens g.depends (without_depend g c.args.depend).depends was then) c.opened_by.ensures
