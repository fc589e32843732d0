-- What a claim's subscription is.
use Rattle.std.specs.Prelude.{◌≡◌, ℕ, ◌-◌, ◌<◌, true, List}
use mathlib.Core.Option.{some}
use lib.ListN.{get_elem?}
use Rattle.farm_types.specs.Farm.{sub_of}
use Rattle.booking_rule.specs.declared.hold.Claim.{Claim}
use Rattle.booking_rule.specs.declared.view.View.{View}
use Rattle.booking_rule.specs.Kept.{Kept}
use Rattle.booking_rule.specs.Link.{farm_of, recorded_in}
use Rattle.booking_rule.specs.Suits.{SuitsOnce}
use Rattle.booking_rule.specs.Views.{holds, room_in, same_room}
use Rattle.booking_rule.specs.Words.{Words}

-- Where a slot's word waits at the version before a claim's, with its cores, a seat has the claim's room, and the claim
-- suited the farm at a place of the journal, its subscription is that of the show in the slot's amount word and of the
-- recorded allocation of its host.
abbrev pub ClaimsAreBilled : Type 0
ClaimsAreBilled =
    (n : ℕ) (W : Words) (views : List View) (id : ℕ) (v : View) (K : Kept n W views) → get_elem? views id ≡ some v
    → (c : Claim) → c.slot < 65536 → c.version < 16777216 → 0 < c.cores
    → W.frame c.slot ≡ record { phase = 1; version = c.version - 1; host = 0; cores = c.cores }
    → holds same_room (room_in c) v.rooms ≡ true → SuitsOnce (farm_of K.opening) K.log c
    → sub_of (W.amount c.slot).show ((recorded_in K.opening K.log K.desk).alloc c.host) ≡ c.sub
