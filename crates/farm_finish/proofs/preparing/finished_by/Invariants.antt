use Rattle.std.proofs.Common.{nat_eq, take}
use Rattle.indexmap.specs.IndexMap.{get}
use Rattle.farm_finish.specs.Closing.{left_in}
use Rattle.farm_finish.proofs.CountLemmas.CountedDown.{IsCounted}
use Rattle.farm_finish.proofs.CountLemmas.CountedRows.{jobs_done}
use Rattle.farm_finish.proofs.preparing.finished_by.Given as goal

abbrev pub invariant-loop-change : goal.invariant-loop-change
invariant-loop-change l = IsCounted (λ job. left_in job l.jobs.slots) (jobs_done (take l.change-index l.rows)) (get nat_eq l.left) l.finished.items
