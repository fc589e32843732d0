-- Which calls of an object in memory are to fail, by their number from 1.
use Rattle.std.specs.Prelude.{ℕ, Bool, ◌==◌, List, if◌then◌else◌}
use Rattle.std.specs.List.{list_any}
use Rattle.fault_counts.specs.Counts.{incremented}

-- the calls that are to fail, and the calls and the faults so far
pub record Plan : Type 0 where
  pub fails : List ℕ
  pub calls : ℕ
  pub faults : ℕ

-- no call so far
abbrev pub new_plan : List ℕ → Plan
new_plan fails = record { fails = fails; calls = 0; faults = 0 }

-- whether the next call is to fail
abbrev pub is_to_fail : Plan → Bool
is_to_fail plan = list_any (λ call. call == incremented plan.calls) plan.fails

-- one more call
abbrev pub with_call : Plan → Plan
with_call plan = record plan { calls = incremented plan.calls }

-- one more fault
abbrev pub with_fault : Plan → Plan
with_fault plan = record plan { faults = incremented plan.faults }

-- one more call, which fails where it is to
abbrev pub after_call : Plan → Plan
after_call plan = record plan { calls = incremented plan.calls; faults = if is_to_fail plan then incremented plan.faults else plan.faults }
