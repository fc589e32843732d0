use Rattle.std.proofs.Common.{◌≡◌, ◌≤◌, ◌<◌, List, Some, true, length, sym, ◌∙◌, ap, subst}
use Rattle.std.specs.List.{slice_get}
use Rattle.std.proofs.lemmas.Option.{same_Some}
use Rattle.farm_types.proofs.Changed.{changed_at_same}
use Rattle.farm_types.specs.declared.limits.TheConstants.{MOST_DEPENDS, MOST_GROUPS}
use Rattle.depend_edges.specs.Counts.{fewer, lowered}
use Rattle.depend_edges.specs.Listed.{ListedLists}
use Rattle.depend_edges.specs.Places.{IsGroupAt}
use Rattle.depend_edges.specs.declared.links.Edge.{Edge}
use Rattle.depend_graph.specs.Flow.{Flow, due_flow, flow_in, flow_of, is_last_of, passed_flow}
use Rattle.depend_graph.proofs.ProgressLemmas.Lowered.{lowered_each, lowered_same, lowered_there}
use Rattle.depend_graph.proofs.tally.Tally.pass.Goals as goal

pub meet_if_due-requires-clause-there : goal.meet_if_due-requires-clause-there
meet_if_due-requires-clause-there c =
    let there = c.requires.there in
    let depends = c.args.self.now.depends.items in
    let x = there.place.listed in
    let read = c.edge_in-edge.ensures x (ap (λ (ds : List ListedLists). slice_get ds c.args.at.depend) c.as_slice.ensures.value ∙ there.place.listed_there) in
    let same = same_Some there.edge c.edge_in-edge.result (sym there.edge_there ∙ read) in
    let place = subst (λ (e : Edge). IsGroupAt depends c.args.at.depend e.group) same there.place in
    subst (λ (ds : List ListedLists). IsGroupAt ds c.args.at.depend c.edge_in-edge.result.group) (sym c.lower_in.ensures.depends)
    (lowered_there depends c.args.at.depend c.edge_in-edge.result.group place)

pub meet_if_due-requires-clause-room : goal.meet_if_due-requires-clause-room
meet_if_due-requires-clause-room c =
    let there = c.requires.there.place in
    let room = c.requires.room in
    let depends = c.args.self.now.depends.items in
    let place = c.args.at.depend in
    let group = c.edge_in-edge.result.group in
    record {
      within = λ d at.
          lowered_each (λ (x : ListedLists). length x.groups ≤ MOST_GROUPS) depends place group there.listed there.listed_there (room.within there.listed there.listed_there) d
          (ap (λ (ds : List ListedLists). slice_get ds place) (sym c.lower_in.ensures.depends) ∙ at);
      slots = room.slots;
      satisfied = λ d at.
          lowered_each (λ (x : ListedLists). is_last_of x ≡ true → length c.args.opened.now.satisfied < MOST_DEPENDS) depends place group there.listed there.listed_there
          (room.satisfied there.listed there.listed_there) d (ap (λ (ds : List ListedLists). slice_get ds place) (sym c.lower_in.ensures.depends) ∙ at);
    }

pub returns-clause-flow : goal.returns-clause-flow
returns-clause-flow c = λ d e at_place at_edge g n at_group at_count.
    let t = c.args.self.now in
    let depends = t.depends.items in
    let place = c.args.at.depend in
    let read = c.edge_in-edge.result in
    let same : e ≡ read = same_Some e read (sym at_edge ∙ c.edge_in-edge.ensures d (ap (λ (ds : List ListedLists). slice_get ds place) c.as_slice.ensures.value ∙ at_place)) in
    let rest : List ListedLists → Flow = λ ds. flow_of ds t.unmet.items t.left c.args.opened.now in
    let new = flow_in c.meet_if_due.new.self c.meet_if_due.new.opened in
    let at_read : slice_get d.groups read.group ≡ Some g → slice_get d.counts read.group ≡ Some n → new ≡ passed_flow place read.group d g n (rest depends) =
    λ in_groups in_counts.
    c.meet_if_due.ensures.flow (lowered read.group d) (ap (λ (ds : List ListedLists). slice_get ds place) c.lower_in.ensures.depends ∙ lowered_same depends place read.group d at_place) g
    (fewer n) in_groups (changed_at_same d.counts read.group fewer n in_counts)
    ∙ ap (λ (ds : List ListedLists). due_flow place read.group (lowered read.group d) g (fewer n) (rest ds)) c.lower_in.ensures.depends
    in
    subst (λ (x : Edge). slice_get d.groups x.group ≡ Some g → slice_get d.counts x.group ≡ Some n → new ≡ passed_flow place x.group d g n (rest depends)) (sym same) at_read at_group at_count
