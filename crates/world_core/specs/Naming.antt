-- What an event names, which is there where memory runs out.
use Rattle.std.specs.Prelude.{ℕ, ◌≡◌, true, false, List, [], Option, None, Some, IfSome, ⊤, IsSome, IsSomeAnd, Result, Ok, Err, slice_get}
use Rattle.farm_types.specs.declared.attempt.Attempt.{Attempt}
use Rattle.rqd_core.specs.Life.{is_run}
use Rattle.world_law.specs.declared.event.Event.{Event}
use Rattle.world_law.specs.declared.event.Event.TheVariants as event
use Rattle.world_law.specs.declared.fault.WorldFault.{WorldFault}
use Rattle.world_law.specs.declared.fault.WorldFault.TheVariants as fault
use Rattle.world_law.specs.declared.lines.Told.{Told}
use Rattle.world_law.specs.Hosts.{has_used}
use Rattle.world_law.specs.Outcomes.{IsThere, IsUsed}
use Rattle.world_law.specs.World.{History, Host, World}

-- What the event names is there, and its nonce is new. Of a line the commit that the store refuses isn't asked for: it takes memory to know the line's commits.
abbrev pub IsNamed : World → Event → Type 0
IsNamed w (event.ToCue line moment refused) = IsSome (slice_get w.sent line)
IsNamed w (event.NewLife host nonce) = IsSomeAnd (slice_get w.hosts host) (λ h. has_used h nonce ≡ false)
IsNamed w other = IsThere w other

-- it is so where memory runs out: want of memory is the last fault
abbrev pub IsLast : World → Event → Result ⊤ WorldFault → Type 0
IsLast w e (Err fault.NoMemory) = IsNamed w e
IsLast w e other = Unit {0}

-- whether it is so, or why not
unfoldable pub Names : World → Event → Result ⊤ WorldFault → Type 0
Names w e (Ok done) = IsNamed w e
Names w e (Err fault.NoSuch) = IsThere w e → ⊥
Names w e (Err (fault.UsedNonce nonce)) = IsUsed w e nonce
Names w e (Err fault.NoMemory) = ⊥

-- the starts of a host, if it is there
abbrev pub starts_of : Option Host → List Attempt
starts_of None = []
starts_of (Some h) = h.started

-- ---- the parts of a world

-- there is one at that place
abbrev pub HasOne : {X : Type 0} → Option X → Result ⊤ WorldFault → Type 0
HasOne found (Ok done) = IsSome found
HasOne found (Err fault.NoSuch) = found ≡ None
HasOne found (Err why) = ⊥

-- so in a list, where a place is named
abbrev pub HasFurther : List History → Option ℕ → Result ⊤ WorldFault → Type 0
HasFurther further None (Ok done) = Unit {0}
HasFurther further None (Err why) = ⊥
HasFurther further (Some place) r = HasOne (slice_get further place) r

-- the line at that place is to a host that is there
abbrev pub HasHost : Option Told → List Host → Result ⊤ WorldFault → Type 0
HasHost found hosts (Ok done) = IsSomeAnd found (λ (t : Told). IsSome (slice_get hosts t.host))
HasHost found hosts (Err fault.NoSuch) = IfSome found (λ (t : Told). slice_get hosts t.host ≡ None)
HasHost found hosts (Err why) = ⊥

-- the host runs the attempt
abbrev pub IsRunning : Host → Attempt → Result ⊤ WorldFault → Type 0
IsRunning h a (Ok done) = is_run a h.life.running ≡ true
IsRunning h a (Err fault.NoSuch) = is_run a h.life.running ≡ false
IsRunning h a (Err why) = ⊥

-- there is a host, and it runs the attempt
abbrev pub HasRunning : Option Host → Attempt → Result ⊤ WorldFault → Type 0
HasRunning found a (Ok done) = IsSomeAnd found (λ (h : Host). is_run a h.life.running ≡ true)
HasRunning found a (Err fault.NoSuch) = IfSome found (λ (h : Host). is_run a h.life.running ≡ false)
HasRunning found a (Err why) = ⊥

-- the host never used the nonce
abbrev pub IsFresh : Host → ℕ → Result ⊤ WorldFault → Type 0
IsFresh h nonce (Ok done) = has_used h nonce ≡ false
IsFresh h nonce (Err (fault.UsedNonce told)) = (told ≡ nonce) × (has_used h nonce ≡ true)
IsFresh h nonce (Err why) = ⊥

-- there is a host, and it never used the nonce
abbrev pub HasFresh : Option Host → ℕ → Result ⊤ WorldFault → Type 0
HasFresh found nonce (Ok done) = IsSomeAnd found (λ h. has_used h nonce ≡ false)
HasFresh found nonce (Err fault.NoSuch) = found ≡ None
HasFresh found nonce (Err (fault.UsedNonce told)) = (told ≡ nonce) × IsSomeAnd found (λ h. has_used h nonce ≡ true)
HasFresh found nonce (Err fault.NoMemory) = ⊥
