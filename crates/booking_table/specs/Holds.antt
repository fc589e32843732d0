-- What holds and claims stand for, in a seat's view.
use Rattle.std.specs.Prelude.{◌≡◌, ℕ, ◌<◌, true, Option, Some, None}
use Rattle.farm_types.specs.Limits.{IsBetween}
use Rattle.farm_types.specs.declared.limits.TheConstants.{LEAST_CORES, LEAST_MEMORY, MOST_CORES, MOST_MEMORY}
use Rattle.booking_rule.specs.declared.view.View.{View}
use Rattle.booking_rule.specs.Link.{limit_code}
use Rattle.booking_rule.specs.Views.{take_of, room_of, same_take, same_room, same_claim, holds, holds_limit}
use Rattle.booking_core.specs.Machine.{IsFormedClaim}
use Rattle.booking_table.specs.declared.holds.BurstHold.{BurstHold}
use Rattle.booking_table.specs.declared.holds.Hold.{Hold}
use Rattle.booking_table.specs.declared.holds.Claim.{Claim}

-- ---- cores of a subscription

abbrev pub burst_hold : ℕ → ℕ → BurstHold
burst_hold sub cores = record { sub = sub; cores = cores; limit = None }

-- with a place in a limit, and without
abbrev pub with_place : BurstHold → ℕ → BurstHold
with_place b limit = record { sub = b.sub; cores = b.cores; limit = Some limit }

abbrev pub without_place : BurstHold → BurstHold
without_place b = record { sub = b.sub; cores = b.cores; limit = None }

-- it is one of the limits, if there is one
abbrev pub IsLimit : Option ℕ → Type 0
IsLimit None = Unit {0}
IsLimit (Some limit) = limit < 255

-- a layer's cores of a subscription
abbrev pub IsBurst : BurstHold → Type 0
IsBurst b = (b.sub < 1024) × IsBetween LEAST_CORES MOST_CORES b.cores × IsLimit b.limit

-- the view has what it stands for
abbrev pub HasBurst : View → BurstHold → Type 0
HasBurst v b = IsBurst b × (holds same_take (take_of b.sub b.cores) v.takes ≡ true) × (holds_limit (limit_code b.limit) v.limits ≡ true)

-- ---- with room on a host

abbrev pub hold_of : BurstHold → ℕ → ℕ → Hold
hold_of b host memory = record { burst = b; host = host; memory = memory }

abbrev pub IsHold : Hold → Type 0
IsHold h = IsBurst h.burst × (h.host < 4096) × IsBetween LEAST_MEMORY MOST_MEMORY h.memory

abbrev pub HasHold : View → Hold → Type 0
HasHold v h = IsHold h × HasBurst v h.burst × (holds same_room (room_of h.host h.burst.cores h.memory) v.rooms ≡ true)

-- ---- a claim

-- a view's claim of a slot at a version
abbrev pub claim_with : ℕ → ℕ → ℕ → ℕ → ℕ → Option ℕ → ℕ → Rattle.booking_rule.specs.declared.hold.Claim.Claim
claim_with slot version host sub cores limit memory =
    record { slot = slot; version = version; host = host; sub = sub; cores = cores; limit = limit_code limit; memory = memory }

-- with what is held
abbrev pub claim_at : ℕ → ℕ → Hold → Rattle.booking_rule.specs.declared.hold.Claim.Claim
claim_at slot version h = claim_with slot version h.host h.burst.sub h.burst.cores h.burst.limit h.memory

-- the one that a claim stands for
abbrev pub claim_of : Claim → Rattle.booking_rule.specs.declared.hold.Claim.Claim
claim_of c = claim_at c.slot c.version c.hold

abbrev pub HasClaim : View → Claim → Type 0
HasClaim v c = IsFormedClaim (claim_of c) × IsHold c.hold × (holds same_claim (claim_of c) v.claims ≡ true)
