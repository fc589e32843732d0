-- The jobs that finish are those of `closed`, and they may.
use Rattle.std.proofs.Common.{◌≡◌, [], refl, arith}
use Rattle.farm_types.specs.declared.entry.Act.{Act}
use Rattle.farm_types.specs.declared.entry.Act.TheVariants.{EatFrame, Heard, KillJob}
use Rattle.farm_types.specs.Farm.{Farm}
use Rattle.farm_types.specs.Step.{closed, finish_all, finish_each}
use Rattle.depend_law.specs.Ending.{CanEnd, IsSettled}
use Rattle.depend_law.proofs.FinishesAll.{can_end}
use Rattle.farm_finish.specs.Closing.{closing}

pub closed_is : (act : Act) (f : Farm) → closed act f ≡ finish_each (closing act f) f
unfolding finish_all
closed_is (Heard heard) f = refl
closed_is (KillJob job) f = refl
closed_is (EatFrame p) f = refl
closed_is act f = refl

none_ends : (f : Farm) → IsSettled f → CanEnd f []
none_ends f settled = record { settled = settled; rise = omega (arith, settled.rows.jobs.finish_from, settled.rows.jobs.finish_within); ends = tt }

pub closing_ends : (act : Act) (f : Farm) → IsSettled f → CanEnd f (closing act f)
closing_ends (Heard heard) f settled = can_end f settled
closing_ends (KillJob job) f settled = can_end f settled
closing_ends (EatFrame p) f settled = can_end f settled
closing_ends act f settled = none_ends f settled
