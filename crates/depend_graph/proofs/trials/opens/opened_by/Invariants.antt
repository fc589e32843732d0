use Rattle.std.proofs.Common.{nat_eq, take}
use Rattle.indexmap.specs.IndexMap.{get}
use Rattle.depend_graph.proofs.TrialLemmas.Counted.{IsCounted}
use Rattle.depend_graph.proofs.trials.opens.opened_by.Given as goal

abbrev pub invariant-loop-slot : goal.invariant-loop-slot
invariant-loop-slot l = IsCounted l.unmet (take l.slot-index l.freed) (get nat_eq l.waiting) l.slots.items
