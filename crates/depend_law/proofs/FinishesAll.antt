-- Jobs that finish keep what the farm keeps of depends: all at once, and after an act.
use Rattle.std.proofs.Common.{ℕ, ◌+◌, List, [], ◌∷◌, arith}
use Rattle.std.specs.List.{AllByRecursion}
use Rattle.farm_types.specs.declared.entry.Act.{Act}
use Rattle.farm_types.specs.declared.entry.Act.TheVariants.{EatFrame, Heard, KillJob}
use Rattle.farm_types.specs.Farm.{Farm}
use Rattle.farm_types.specs.Kept.{KeepsDepends, KeepsRows}
use Rattle.farm_types.specs.Rising.{IsRising}
use Rattle.farm_types.specs.Step.{closed, finish_all, finish_each, finish_one, finishing}
pub use Rattle.farm_law.proofs.FinishedKept.{later_ends}
use Rattle.farm_law.proofs.FinishedKept.{finishing_end, finishing_rise, kept_one, number}
use Rattle.depend_law.specs.Ending.{CanEnd, Ends, IsSettled}
use Rattle.depend_law.proofs.Finishes.{finish_keeps}

each_keeps : (low : ℕ) (jobs : List ℕ) (high : ℕ) (f : Farm) → IsRising number low jobs high → AllByRecursion (Ends f) jobs → KeepsRows f → KeepsDepends f → KeepsDepends (finish_each jobs f)
each_keeps low [] high f rise all rows k = k
each_keeps low (n ∷ ns) high f rise all rows k =
    each_keeps (n + 1) ns high (finish_one n f) rise.1 (later_ends n f (n + 1) ns high (omega arith) rise.1 all.1) (kept_one n f rows all.0) (finish_keeps f rows k n all.0.0 all.0.1)

pub can_end : (f : Farm) → IsSettled f → CanEnd f (finishing f)
can_end f settled = record { settled = settled; rise = finishing_rise f settled.rows; ends = finishing_end f settled.rows }

pub all_keep : (f : Farm) → KeepsRows f → KeepsDepends f → KeepsDepends (finish_all f)
unfolding finish_all
all_keep f rows k =
    each_keeps 1 (finishing f) f.next_job f (finishing_rise f rows) (finishing_end f rows) rows k

pub closed_keeps : (act : Act) (f : Farm) → KeepsRows f → KeepsDepends f → KeepsDepends (closed act f)
closed_keeps (Heard heard) f rows k = all_keep f rows k
closed_keeps (KillJob job) f rows k = all_keep f rows k
closed_keeps (EatFrame p) f rows k = all_keep f rows k
closed_keeps act f rows k = k
