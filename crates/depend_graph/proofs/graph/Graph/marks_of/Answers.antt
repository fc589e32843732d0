use Rattle.std.proofs.Common.{◌≡◌, ◌∙◌, ℕ, true, false, List, Some, eqb, length, map, sym, ap}
use Rattle.std.specs.List.{list_any, slice_get}
use Rattle.std.proofs.lemmas.Bool.{eqb-true}
use Rattle.std.proofs.lemmas.Option.{slice_get_read}
use Rattle.std.proofs.lemmas.Result.{IfOk-weaker}
use Rattle.farm_types.proofs.Lists.{and_both}
use Rattle.depend_edges.specs.Listed.{ListedLists, has_number, is_there}
use Rattle.depend_graph.specs.Graph.{GraphLists, group_mark, groups_at}
use Rattle.depend_graph.specs.Watches.{mark_for}
use Rattle.depend_graph.proofs.GoingLemmas.Thinned.{groups_there, marks_watched, no_groups}
use Rattle.depend_graph.proofs.graph.Graph.marks_of.Goals as goal

pub returns-in_default : goal.returns-in_default
returns-in_default c =
    let n = c.args.depend in
    let ds = c.self.inside.tally.depends.items in
    let none : list_any (has_number n) ds ≡ false = ap (list_any (has_number n)) (sym c.as_slice.ensures.value) ∙ c.find_place.ensures.none c.in_default.is in
    c.new.ensures ∙ sym (ap (map (group_mark n)) (ap (λ (g : GraphLists). groups_at g.depends n) (sym c.self.view_is) ∙ no_groups ds n none))

pub returns : goal.returns
returns c =
    let n = c.args.depend in
    let ds = c.self.inside.tally.depends.items in
    let kept = c.self.invariant.tally.depends in
    let place = c.in-Some.place in
    let d = c.index.result.now in
    let read : slice_get ds place ≡ Some d =
    slice_get_read ds (length c.as_slice.result.now) place d (ap (λ (xs : List ListedLists). length xs) c.as_slice.ensures.value) c.in-Some.ensures.there c.index.ensures in
    let named : has_number n d ≡ true = c.in-Some.ensures.number d (ap (λ (xs : List ListedLists). slice_get xs place) c.as_slice.ensures.value ∙ read) in
    let number : d.depend ≡ n = eqb-true d.depend n (and_both (is_there d) (eqb d.depend n) named).1 in
    IfOk-weaker c.marks_in.result _ _
    (λ marks is.
    is
    ∙ (ap (λ (i : ℕ). map (mark_for i) d.groups) number
    ∙ (marks_watched n d.groups d.counts (kept.listed place d read).counted
    ∙ ap (map (group_mark n)) (sym (groups_there ds kept.numbers_differ place n d read named) ∙ ap (λ (g : GraphLists). groups_at g.depends n) c.self.view_is)))) c.marks_in.ensures
