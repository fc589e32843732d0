-- A listener in memory.
use Rattle.std.specs.Prelude.{ℕ, ◌≡◌, Bool, true, false, ◌||◌, List, [], ◌∷◌, Result, Ok, Err}
use Rattle.cue_io.specs.Memory.{Store, Supply}
use Rattle.fault_counts.specs.Counts.{incremented}
use Rattle.fault_counts.specs.Plans.{Plan, is_to_fail, new_plan, with_call, with_fault}
use Rattle.listener.specs.declared.accept.AcceptFault.{AcceptFault}
use Rattle.listener.specs.declared.accept.AcceptFault.TheVariants as faults

-- the sources that are left, the room of each sink, its calls, and the connections that it accepted
pub record Waiting : Type 0 where
  pub inputs : List Supply
  pub room : ℕ
  pub plan : Plan
  pub accepted : ℕ

-- whether no source is left
abbrev pub is_used_up : List Supply → Bool
is_used_up [] = true
is_used_up (input ∷ inputs) = false

-- whether the next call fails
abbrev pub is_failing : Waiting → Bool
is_failing l = is_to_fail l.plan || is_used_up l.inputs

-- a sink of this room to which nothing was written
abbrev pub new_sink : ℕ → Store
new_sink room = record { written = []; most = room; capacity = room; plan = new_plan [] }

-- one call: what it answers, and the listener after it
abbrev pub Accepts : Waiting → Result (Supply × Store) AcceptFault → Waiting → Type 0
Accepts old (Ok ends) new = (is_failing old ≡ false) × (old.inputs ≡ ends.0 ∷ new.inputs) × (ends.1 ≡ new_sink old.room)
    × (new ≡ record old { inputs = new.inputs; plan = with_call old.plan; accepted = incremented old.accepted })
Accepts old (Err faults.Failed) new = (is_failing old ≡ true) × (new ≡ record old { plan = with_fault (with_call old.plan) })
Accepts old (Err faults.NoMemory) new = (is_failing old ≡ false) × (new ≡ record old { plan = with_call old.plan })
