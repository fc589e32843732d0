-- What each part of a step leaves.
use Rattle.std.specs.Prelude.{ℕ, ◌≡◌, true, false, List, [], ◌∷◌, ◌++◌, None, Some, ⊤, IfSome, IsSomeAnd, Result, Ok, Err, slice_get, slice_set}
use Rattle.farm_types.specs.declared.attempt.Attempt.{Attempt}
use Rattle.farm_types.specs.declared.attempt.Exit.{Exit}
use Rattle.rqd_core.specs.Life.{is_run, line_of}
use Rattle.world_law.specs.declared.event.Event.{Event}
use Rattle.world_law.specs.declared.fault.WorldFault.{WorldFault}
use Rattle.world_law.specs.declared.fault.WorldFault.TheVariants as fault
use Rattle.world_law.specs.declared.lines.Sent.{Sent}
use Rattle.world_law.specs.Happens.{Does}
use Rattle.world_law.specs.Hosts.{after_exit, after_send, after_told, has_used, reborn}
use Rattle.world_law.specs.Outcomes.{IsThere, IsUsed, Outcome}
use Rattle.world_law.specs.World.{Host, World}

-- What an event comes to, once it is noted: what it does, or its fault, at which nothing has changed.
unfoldable pub Comes : World → Event → Result ⊤ WorldFault → World → Type 0
Comes w e (Ok done) new = Does w e new
Comes w e (Err fault.NoSuch) new = (IsThere w e → ⊥) × (new ≡ w)
Comes w e (Err (fault.UsedNonce nonce)) new = IsUsed w e nonce × (new ≡ w)
Comes w e (Err fault.NoMemory) new = new ≡ w

-- what a step comes to
unfoldable pub Steps : World → Event → Result ⊤ WorldFault → World → Type 0
Steps w e result new = Outcome w e result new

-- the world without its events, and with other ones
abbrev pub bare : World → World
bare w = record w { events = [] }

abbrev pub with_events : World → List Event → World
with_events w es = record w { events = es }

-- ---- hosts

-- a line of that host, its next one
abbrev pub line_from : ℕ → Host → Sent
line_from host h = record { host = Some host; line = line_of h.life }

-- the host at that place sent its next line, which stands behind the others
abbrev pub Sends : List Host → List Sent → ℕ → Result ⊤ WorldFault → List Host → List Sent → Type 0
Sends hosts sent host (Ok done) news lines =
    IsSomeAnd (slice_get hosts host) (λ h. (news ≡ slice_set hosts host (after_send h)) × (lines ≡ sent ++ line_from host h ∷ []))
Sends hosts sent host (Err fault.NoSuch) news lines = (slice_get hosts host ≡ None) × (news ≡ hosts) × (lines ≡ sent)
Sends hosts sent host (Err (fault.UsedNonce nonce)) news lines = ⊥
Sends hosts sent host (Err fault.NoMemory) news lines = (news ≡ hosts) × (lines ≡ sent)

-- the line came to its host
abbrev pub Takes : List Host → ℕ → List ℕ → Result ⊤ WorldFault → List Host → Type 0
Takes hosts host line (Ok done) news = IsSomeAnd (slice_get hosts host) (λ h. news ≡ slice_set hosts host (after_told h line))
Takes hosts host line (Err fault.NoSuch) news = (slice_get hosts host ≡ None) × (news ≡ hosts)
Takes hosts host line (Err (fault.UsedNonce nonce)) news = ⊥
Takes hosts host line (Err fault.NoMemory) news = news ≡ hosts

-- an attempt that runs on the host ended
abbrev pub EndsOn : Host → Attempt → Exit → Result ⊤ WorldFault → Host → Type 0
EndsOn old a exit (Ok done) new = (is_run a old.life.running ≡ true) × (new ≡ after_exit old a exit)
EndsOn old a exit (Err fault.NoSuch) new = (is_run a old.life.running ≡ false) × (new ≡ old)
EndsOn old a exit (Err why) new = ⊥

-- so on the host at that place
abbrev pub Ends : List Host → ℕ → Attempt → Exit → Result ⊤ WorldFault → List Host → Type 0
Ends hosts host a exit (Ok done) news =
    IsSomeAnd (slice_get hosts host) (λ (h : Host). (is_run a h.life.running ≡ true) × (news ≡ slice_set hosts host (after_exit h a exit)))
Ends hosts host a exit (Err fault.NoSuch) news = IfSome (slice_get hosts host) (λ (h : Host). is_run a h.life.running ≡ false) × (news ≡ hosts)
Ends hosts host a exit (Err why) news = ⊥

-- the host began a new life
abbrev pub BeginsOn : Host → ℕ → Result ⊤ WorldFault → Host → Type 0
BeginsOn old nonce (Ok done) new = (has_used old nonce ≡ false) × (new ≡ reborn old nonce)
BeginsOn old nonce (Err (fault.UsedNonce told)) new = (told ≡ nonce) × (has_used old nonce ≡ true) × (new ≡ old)
BeginsOn old nonce (Err fault.NoMemory) new = new ≡ old
BeginsOn old nonce (Err why) new = ⊥

-- so did the host at that place
abbrev pub Begins : List Host → ℕ → ℕ → Result ⊤ WorldFault → List Host → Type 0
Begins hosts host nonce (Ok done) news =
    IsSomeAnd (slice_get hosts host) (λ (h : Host). (has_used h nonce ≡ false) × (news ≡ slice_set hosts host (reborn h nonce)))
Begins hosts host nonce (Err fault.NoSuch) news = (slice_get hosts host ≡ None) × (news ≡ hosts)
Begins hosts host nonce (Err (fault.UsedNonce told)) news = (told ≡ nonce) × IsSomeAnd (slice_get hosts host) (λ h. has_used h nonce ≡ true) × (news ≡ hosts)
Begins hosts host nonce (Err fault.NoMemory) news = news ≡ hosts
