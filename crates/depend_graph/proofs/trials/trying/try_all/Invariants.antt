use Rattle.std.proofs.Common.{ℕ, [], nat_eq, List, drop}
use Rattle.indexmap.specs.IndexMap.{get}
use Rattle.depend_graph.specs.Graph.{GraphLists, with_all_done}
use Rattle.depend_graph.specs.Meeting.{met_lists}
use Rattle.depend_graph.specs.Trial.{IsTried, IsUnderWay, nothing_laid, nothing_met}
use Rattle.depend_graph.specs.Tries.{AreUndone}
use Rattle.depend_graph.proofs.trials.trying.try_all.Given as goal

abbrev pub invariant-loop-slot : goal.invariant-loop-slot
invariant-loop-slot l =
    (unmet : List ℕ) (g : GraphLists) → AreUndone g l.done → IsTried l.depends unmet nothing_laid [] nothing_met g
    → IsUnderWay l.depends unmet (get nat_eq l.trial.lacking) l.trial.freed.items (met_lists l.trial.meeting) (drop l.slot-index l.done) (with_all_done g l.done)
