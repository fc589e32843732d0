-- What a seat holds, in its view.
use Rattle.booking_rule.specs.declared.view.View.{View}
use Rattle.booking_table.specs.declared.holds.BurstHold.{BurstHold}
use Rattle.booking_table.specs.declared.holds.Hold.{Hold}
use Rattle.booking_table.specs.declared.holds.Claim.{Claim}
use Rattle.booking_table.specs.Holds.{HasBurst, HasClaim, HasHold}
use Rattle.booking_cases.specs.declared.held.Held.{Held}
use Rattle.booking_cases.specs.declared.held.Held.TheVariants as held
use Rattle.booking_cases.specs.declared.held.HeldBurst.{HeldBurst}
use Rattle.booking_cases.specs.declared.held.HeldRoom.{HeldRoom}
use Rattle.booking_cases.specs.declared.held.HeldClaim.{HeldClaim}

abbrev pub burst_in : HeldBurst → BurstHold
burst_in b = record { sub = b.sub; cores = b.cores; limit = b.limit }

abbrev pub hold_in : HeldRoom → Hold
hold_in r = record { burst = burst_in r.burst; host = r.host; memory = r.memory }

abbrev pub claim_in : HeldClaim → Claim
claim_in c = record { slot = c.slot; version = c.version; hold = hold_in c.room }

-- the view has what is held
abbrev pub HasHeld : View → Held → Type 0
HasHeld v held.Nothing = Unit {0}
HasHeld v (held.Burst b) = HasBurst v (burst_in b)
HasHeld v (held.Room r) = HasHold v (hold_in r)
HasHeld v (held.Claim c) = HasClaim v (claim_in c)
