-- What a list of events comes to.
use Rattle.std.specs.Prelude.{ℕ, ◌≡◌, List, take, Some, ⊤, Result, Ok, Err, slice_get}
use Rattle.world_law.specs.declared.event.Event.{Event}
use Rattle.world_law.specs.declared.fault.WorldFault.{WorldFault}
use Rattle.world_law.specs.Happens.{Happen}
use Rattle.world_law.specs.Outcomes.{Outcome}
use Rattle.world_law.specs.World.{World}
use Rattle.world_core.specs.Naming.{IsLast}

-- the events before that place happened, in order, and the one there has the fault
pub record StopsAt (w : World) (es : List Event) (place : ℕ) (why : WorldFault) (new : World) : Type 0 where
  pub event : Event
  pub there : slice_get es place ≡ Some event
  pub before : World
  pub taken : Happen w (take place es) before
  pub stopped : Outcome before event (Err why) new
  pub last : IsLast before event (Err why)

-- all of them happened, in order, or those up to the first fault
abbrev pub Runs : World → List Event → Result ⊤ (ℕ × WorldFault) → World → Type 0
Runs w es (Ok done) new = Happen w es new
Runs w es (Err stop) new = StopsAt w es stop.0 stop.1 new
