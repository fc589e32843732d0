use Rattle.std.proofs.Common.{◌<◌, List, length, sym, ◌∙◌, ap, subst}
use Rattle.std.specs.List.{slice_get}
use Rattle.farm_types.specs.declared.limits.TheConstants.{MOST_DEPENDS}
use Rattle.depend_edges.specs.Listed.{ListedLists}
use Rattle.depend_graph.specs.Graph.{OpenedLists}
use Rattle.depend_graph.proofs.tally.Tally.meet.Goals as goal

pub free_in-requires-clause-slots : goal.free_in-requires-clause-slots
free_in-requires-clause-slots c = c.requires.room.slots

pub count_off_in-requires-clause-within : goal.count_off_in-requires-clause-within
count_off_in-requires-clause-within c = λ d at. c.requires.room.within d (ap (λ (ds : List ListedLists). slice_get ds c.args.place) (sym c.as_slice-2.ensures.value) ∙ at)

pub count_off_in-requires-clause-satisfied : goal.count_off_in-requires-clause-satisfied
count_off_in-requires-clause-satisfied c = λ d at last.
    let there = c.requires.there in
    let freed =
    c.free_in.ensures.slots there.listed (ap (λ (ds : List ListedLists). slice_get ds c.args.place) c.as_slice.ensures.value ∙ there.listed_there) there.one there.count there.group_there
    there.count_there
    in
    subst (λ (o : OpenedLists). length o.satisfied < MOST_DEPENDS) (sym freed) (c.requires.room.satisfied d (ap (λ (ds : List ListedLists). slice_get ds c.args.place) (sym c.as_slice-2.ensures.value) ∙ at) last)
