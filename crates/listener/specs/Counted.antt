-- What a listener counts.
use Rattle.std.specs.Prelude.{ℕ, Result, Ok, Err}
use Rattle.fault_counts.specs.Counts.{incremented}
use Rattle.listener.specs.declared.accept.AcceptFault.{AcceptFault}
use Rattle.listener.specs.declared.accept.AcceptFault.TheVariants as faults

-- the connections that it accepted, and its faults
pub record Counted : Type 0 where
  pub accepted : ℕ
  pub faults : ℕ

-- after a call that came to this; one that found no memory counts nothing
abbrev pub counted_after : {Ends : Type 0} → Result Ends AcceptFault → Counted → Counted
counted_after (Ok ends) old = record old { accepted = incremented old.accepted }
counted_after (Err faults.Failed) old = record old { faults = incremented old.faults }
counted_after (Err faults.NoMemory) old = old
