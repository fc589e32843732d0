-- What is met in a trial, as it is kept.
use Rattle.std.specs.Prelude.{nat_eq}
use Rattle.indexmap.specs.IndexMap.{get}
use Rattle.depend_graph.specs.Trial.{MetLists}
use Rattle.depend_graph.specs.declared.trials.meeting.Meeting.{Meeting}

abbrev pub met_lists : Meeting → MetLists
met_lists m = record { left = get nat_eq m.left; met = m.met.items; satisfied = m.satisfied.items }
