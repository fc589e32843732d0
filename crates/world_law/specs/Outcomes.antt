-- What a call that takes an event answers and leaves.
use Rattle.std.specs.Prelude.{ℕ, ◌≡◌, true, None, Some, ⊤, IsSome, IsSomeAnd, Result, Ok, Err, slice_get}
use Rattle.rqd_core.specs.Life.{is_run}
use Rattle.world_law.specs.declared.event.Event.{Event}
use Rattle.world_law.specs.declared.event.Event.TheVariants as event
use Rattle.world_law.specs.declared.fault.WorldFault.{WorldFault}
use Rattle.world_law.specs.declared.fault.WorldFault.TheVariants as fault
use Rattle.world_law.specs.declared.lines.Told.{Told}
use Rattle.world_law.specs.Happens.{Happens}
use Rattle.world_law.specs.Hosts.{has_used}
use Rattle.world_law.specs.Lines.{MayRefuse}
use Rattle.world_law.specs.World.{Host, World}

-- what the event names is there: its host, its line, its running attempt, the commit that is refused, its further history
abbrev pub IsThere : World → Event → Type 0
IsThere w (event.Send host) = IsSome (slice_get w.hosts host)
IsThere w (event.ToCue line moment refused) = IsSomeAnd (slice_get w.sent line) (λ s. MayRefuse w s moment refused)
IsThere w (event.ToHost line) = IsSomeAnd (slice_get w.told line) (λ (t : Told). IsSome (slice_get w.hosts t.host))
IsThere w (event.Ended host a exit) = IsSomeAnd (slice_get w.hosts host) (λ (h : Host). is_run a h.life.running ≡ true)
IsThere w (event.NewLife host nonce) = IsSome (slice_get w.hosts host)
IsThere w (event.Restart None moment) = Unit {0}
IsThere w (event.Restart (Some place) moment) = IsSome (slice_get w.further place)

-- the event is a new life of a host that has used its nonce
abbrev pub IsUsed : World → Event → ℕ → Type 0
IsUsed w (event.NewLife host nonce) told = (told ≡ nonce) × IsSomeAnd (slice_get w.hosts host) (λ h. has_used h nonce ≡ true)
IsUsed w other told = ⊥

-- The event happens; or what it names isn't there; or its nonce is used; or memory ran out. At each fault the world is as before.
abbrev pub Outcome : World → Event → Result ⊤ WorldFault → World → Type 0
Outcome w e (Ok done) new = Happens w e new
Outcome w e (Err fault.NoSuch) new = (IsThere w e → ⊥) × (new ≡ w)
Outcome w e (Err (fault.UsedNonce nonce)) new = IsUsed w e nonce × (new ≡ w)
Outcome w e (Err fault.NoMemory) new = new ≡ w

-- memory sufficed
abbrev pub HasMemory : Result ⊤ WorldFault → Type 0
HasMemory (Err fault.NoMemory) = ⊥
HasMemory other = Unit {0}
