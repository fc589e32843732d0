use Rattle.std.proofs.Common.{◌≡◌, List, length, refl, sym, ap, subst, ◌∙◌, arith}
use Rattle.std.specs.List.{slice_get}
use Rattle.farm_types.proofs.Lists.{slice_get_below}
use Rattle.depend_edges.specs.Listed.{ListedLists}
use Rattle.depend_graph.specs.Flow.{flow_in}
use Rattle.depend_graph.specs.Graph.{OpenedLists}
use Rattle.depend_graph.specs.Passing.{IsDropping}
use Rattle.depend_graph.proofs.GoingLemmas.Dropped.{dropped_all, group_place, start_dropping, step_dropped}
use Rattle.depend_graph.proofs.ProgressLemmas.Finished.{opened_all}
use Rattle.depend_graph.proofs.ProgressLemmas.Still.{edge_lists-still, there_still}
use Rattle.depend_graph.proofs.Tallied.{tally_kept}
use Rattle.depend_graph.proofs.ProgressLemmas.Walked.{room_at}
use Rattle.depend_graph.proofs.tally.Tally.meet_all.Goals as goal

pub count_at-count-requires-clause-within : goal.count_at-count-requires-clause-within
count_at-count-requires-clause-within c = λ d at. (c.requires.kept.depends.listed c.args.place d (ap (λ (ds : List ListedLists). slice_get ds c.args.place) (sym c.as_slice.ensures.value) ∙ at)).groups_within

pub loop-group-init : goal.loop-group-init
loop-group-init c =
    record {
      dropping =
          subst (λ (o : OpenedLists). IsDropping c.args.self.now.depends.items c.args.place 0 (flow_in c.args.self.now o)) (sym c.requires.opened)
          (start_dropping c.args.self.now.depends.items c.args.self.now.unmet.items c.args.self.now.left c.args.place c.requires.kept.depends c.requires.kept.sums);
      capacity = refl;
    }

pub meet_if_unmet-requires-clause-there : goal.meet_if_unmet-requires-clause-there
meet_if_unmet-requires-clause-there c =
    let olds = c.args.self.now.depends.items in
    let old = slice_get_below olds c.args.place c.requires.place in
    let count : c.count_at-count.result ≡ length old.0.groups = c.count_at-count.ensures old.0 (ap (λ (ds : List ListedLists). slice_get ds c.args.place) c.as_slice.ensures.value ∙ old.1) in
    group_place olds _ c.loop-group.invariant.dropping.flow c.args.place c.loop-group.group old.0 old.1 (omega (arith, c.loop-group-test.true))

pub meet_if_unmet-requires-clause-room : goal.meet_if_unmet-requires-clause-room
meet_if_unmet-requires-clause-room c = room_at c.args.self.now.depends.items _ c.loop-group.invariant.dropping.flow c.args.place

pub loop-group-preserved : goal.loop-group-preserved
loop-group-preserved c =
    let olds = c.args.self.now.depends.items in
    let old = slice_get_below olds c.args.place c.requires.place in
    let count : c.count_at-count.result ≡ length old.0.groups = c.count_at-count.ensures old.0 (ap (λ (ds : List ListedLists). slice_get ds c.args.place) c.as_slice.ensures.value ∙ old.1) in
    let there = group_place olds _ c.loop-group.invariant.dropping.flow c.args.place c.loop-group.group old.0 old.1 (omega (arith, c.loop-group-test.true)) in
    record {
      dropping =
          step_dropped olds c.args.place c.loop-group.group _ c.loop-group.invariant.dropping there.listed there.one there.count there.listed_there there.group_there there.count_there _
          (c.meet_if_unmet.ensures.flow there.listed there.listed_there there.one there.count there.group_there there.count_there);
      capacity = c.meet_if_unmet.ensures.capacity ∙ c.loop-group.invariant.capacity;
    }

pub returns-clause-watches : goal.returns-clause-watches
returns-clause-watches c = λ d at there.
    let count : c.count_at-count.result ≡ length d.groups = c.count_at-count.ensures d (ap (λ (ds : List ListedLists). slice_get ds c.args.place) c.as_slice.ensures.value ∙ at) in
    let ended : c.loop-group.group ≡ length d.groups = omega (arith, c.loop-group-test.false, c.loop-group.auto.group-end) in
    dropped_all c.args.self.now.depends.items c.args.place c.loop-group.group _ c.loop-group.invariant.dropping c.requires.kept.depends d at there ended

pub returns-clause-edges : goal.returns-clause-edges
returns-clause-edges c = edge_lists-still c.args.self.now.depends.items c.loop-group.self.depends.items c.loop-group.invariant.dropping.flow.structure

pub returns-clause-kept : goal.returns-clause-kept
returns-clause-kept c = tally_kept c.args.self.now c.loop-group.self c.loop-group.opened c.requires.kept c.loop-group.invariant.dropping.flow c.loop-group.invariant.capacity

pub returns-clause-opened : goal.returns-clause-opened
returns-clause-opened c =
    opened_all c.args.self.now.depends.items _ c.args.self.now.unmet.items c.args.self.now.left c.sort.new.self c.loop-group.invariant.dropping.flow c.requires.kept.sums c.sort.ensures.sorted c.sort.ensures.moved
    c.sort.ensures.satisfied

pub returns-clause-there : goal.returns-clause-there
returns-clause-there c = there_still c.args.self.now.depends.items c.loop-group.self.depends.items c.loop-group.invariant.dropping.flow.structure
