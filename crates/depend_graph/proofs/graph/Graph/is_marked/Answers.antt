use Rattle.std.proofs.Common.{◌≡◌, ◌∙◌, true, false, List, Some, length, sym, ap}
use Rattle.std.specs.List.{list_any, slice_get}
use Rattle.std.proofs.lemmas.Option.{slice_get_read}
use Rattle.depend_edges.specs.Listed.{ListedLists, has_number}
use Rattle.depend_graph.specs.Graph.{GraphLists, groups_at}
use Rattle.depend_graph.specs.MetAt.{has_mark}
use Rattle.depend_graph.proofs.GoingLemmas.Thinned.{groups_there, no_groups}
use Rattle.depend_graph.proofs.graph.Graph.is_marked.Goals as goal

pub returns-in-None : goal.returns-in-None
returns-in-None c =
    let n = c.args.depend in
    let ds = c.self.inside.tally.depends.items in
    let none : list_any (has_number n) ds ≡ false = ap (list_any (has_number n)) (sym c.as_slice.ensures.value) ∙ c.find_place.ensures.none c.in-None.is in
    sym (ap (has_mark c.args.position) (ap (λ (g : GraphLists). groups_at g.depends n) (sym c.self.view_is) ∙ no_groups ds n none))

pub has_mark_in-requires : goal.has_mark_in-requires
has_mark_in-requires c =
    let ds = c.self.inside.tally.depends.items in
    let place = c.in-Some.place in
    let d = c.index.result.now in
    let read : slice_get ds place ≡ Some d =
    slice_get_read ds (length c.as_slice.result.now) place d (ap (λ (xs : List ListedLists). length xs) c.as_slice.ensures.value) c.in-Some.ensures.there c.index.ensures in
    c.self.invariant.tally.depends.listed place d read

pub returns-in-Some : goal.returns-in-Some
returns-in-Some c =
    let n = c.args.depend in
    let ds = c.self.inside.tally.depends.items in
    let kept = c.self.invariant.tally.depends in
    let place = c.in-Some.place in
    let d = c.index.result.now in
    let read : slice_get ds place ≡ Some d =
    slice_get_read ds (length c.as_slice.result.now) place d (ap (λ (xs : List ListedLists). length xs) c.as_slice.ensures.value) c.in-Some.ensures.there c.index.ensures in
    let named : has_number n d ≡ true = c.in-Some.ensures.number d (ap (λ (xs : List ListedLists). slice_get xs place) c.as_slice.ensures.value ∙ read) in
    c.has_mark_in.ensures
    ∙ ap (has_mark c.args.position) (sym (groups_there ds kept.numbers_differ place n d read named) ∙ ap (λ (g : GraphLists). groups_at g.depends n) c.self.view_is)
