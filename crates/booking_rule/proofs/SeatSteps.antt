-- Each kind of a claimant's step, with the view that it leaves: all that is kept of the table stays kept.
use Rattle.std.proofs.Common.{◌≡◌, ℕ, ◌+◌, ◌-◌, ◌<◌, ◌≤◌, ◌==◌, true, false, List, [], ◌∷◌, ◌++◌, set, refl}
use Rattle.std.specs.Prelude.{Option, Some, None}
use mathlib.Core.Option.{some}
use lib.ListN.{get_elem?}
use Rattle.farm_types.specs.Farm.{sub_of}
use Rattle.frame_words.specs.declared.amount_word.AmountWord.{AmountWord}
use Rattle.booking_rule.specs.declared.view.View.{View}
use Rattle.booking_rule.specs.declared.hold.Claim.{Claim}
use Rattle.booking_rule.specs.declared.hold.Room.{Room}
use Rattle.booking_rule.specs.declared.hold.Take.{Take}
use Rattle.booking_rule.specs.declared.noted.Noted.{Noted}
use Rattle.booking_rule.specs.Words.{Words, with_frame, with_host, with_sub, with_limit}
use Rattle.booking_rule.specs.Views.{take_of, room_of, same_take, same_limit, same_room, same_claim, holds, holds_limit, without, take_in, room_in, noted, granted, asked, given, retracted, granted_limit, asked_limit, given_limit, retracted_limit, with_room, without_room, claimed, dropped}
use Rattle.booking_rule.specs.Link.{farm_of}
use Rattle.booking_rule.specs.Looks.{HasLook}
use Rattle.booking_rule.specs.Seats.{seats, IsSeated}
use Rattle.booking_rule.specs.Suits.{SuitsOnce}
use Rattle.booking_rule.specs.Kept.{Kept}
use Rattle.booking_rule.proofs.Keeping.{records_of, IsSettledFor, IsFound, Stays, looks_kept, grants_kept, overshoots_kept, gives_kept, retracts_kept, grants_limit_kept, overshoots_limit_kept, gives_limit_kept, retracts_limit_kept, takes_room_kept, gives_room_kept, wins_kept, drops_kept}

-- a view with other holds and another trail
abbrev holding : View → List Take → List ℕ → List Room → List Claim → Option Take → Option ℕ → List Noted → View
holding v takes limits rooms claims ungranted ungranted_limit trail =
    record v { takes = takes; limits = limits; rooms = rooms; claims = claims; ungranted = ungranted; ungranted_limit = ungranted_limit; trail = trail }

stays_holding : (v : View) (takes : List Take) (limits : List ℕ) (rooms : List Room) (claims : List Claim) (ungranted : Option Take) (ungranted_limit : Option ℕ) (trail : List Noted)
    → Stays v (holding v takes limits rooms claims ungranted ungranted_limit trail)
stays_holding v takes limits rooms claims ungranted ungranted_limit trail =
    record { desk = refl; number = refl; opening = refl; journal = refl; told = refl; desk_trail = refl; told_trail = refl; receipts = refl }

module _ (n : ℕ) (W : Words) (views : List View) (id : ℕ) (v : View) (item : Noted) (K : Kept n W views) (at : get_elem? views id ≡ some v) (seated : IsSeated v) (found : IsFound W item) (other : (item.did == 14) ≡ false) where
  -- a load, or an exchange that lost
  pub load_kept : Kept n W (set views id (noted v item))
  load_kept = looks_kept n W views id v (noted v item) item K at seated (stays_holding v v.takes v.limits v.rooms v.claims v.ungranted v.ungranted_limit (v.trail ++ item ∷ [])) refl found other (record { rooms = record { rooms = refl }; takes = record { takes = refl; ungranted = refl }; limits = record { limits = refl; ungranted = refl }; claims = refl })

  -- ---- a subscription's burst

  pub take_burst_kept : (sub cores : ℕ) → sub < 1024 → (W.sub sub).booked + cores ≤ (W.sub sub).burst
      → Kept n (with_sub W sub (record { burst = (W.sub sub).burst; booked = (W.sub sub).booked + cores })) (set views id (granted v (take_of sub cores) item))
  take_burst_kept sub cores lt fits =
      grants_kept n W views id v (granted v (take_of sub cores) item) item K at seated (stays_holding v (take_of sub cores ∷ v.takes) v.limits v.rooms v.claims v.ungranted v.ungranted_limit (v.trail ++ item ∷ [])) refl found other sub cores lt (record { rooms = refl }) (record { limits = refl; ungranted = refl }) refl fits refl refl

  pub take_burst_short_kept : (sub cores : ℕ) → sub < 1024 → seats v ≡ 1 → cores ≤ 1000000 → v.ungranted ≡ None
      → Kept n (with_sub W sub (record { burst = (W.sub sub).burst; booked = (W.sub sub).booked + cores })) (set views id (asked v (take_of sub cores) item))
  take_burst_short_kept sub cores lt one few none =
      overshoots_kept n W views id v (asked v (take_of sub cores) item) item K at seated (stays_holding v v.takes v.limits v.rooms v.claims (Some (take_of sub cores)) v.ungranted_limit (v.trail ++ item ∷ [])) refl found other sub cores lt (record { rooms = refl }) (record { limits = refl; ungranted = refl }) refl one few none refl refl

  pub give_burst_kept : (sub cores : ℕ) → sub < 1024 → holds same_take (take_of sub cores) v.takes ≡ true
      → Kept n (with_sub W sub (record { burst = (W.sub sub).burst; booked = (W.sub sub).booked - cores })) (set views id (given v (take_of sub cores) item))
  give_burst_kept sub cores lt has =
      gives_kept n W views id v (given v (take_of sub cores) item) item K at seated (stays_holding v (without same_take (take_of sub cores) v.takes) v.limits v.rooms v.claims v.ungranted v.ungranted_limit (v.trail ++ item ∷ [])) refl found other sub cores lt (record { rooms = refl }) (record { limits = refl; ungranted = refl }) refl has refl refl

  pub retract_burst_kept : (sub cores : ℕ) → sub < 1024 → v.ungranted ≡ Some (take_of sub cores)
      → Kept n (with_sub W sub (record { burst = (W.sub sub).burst; booked = (W.sub sub).booked - cores })) (set views id (retracted v item))
  retract_burst_kept sub cores lt flew =
      retracts_kept n W views id v (retracted v item) item K at seated (stays_holding v v.takes v.limits v.rooms v.claims (None) v.ungranted_limit (v.trail ++ item ∷ [])) refl found other sub cores lt (record { rooms = refl }) (record { limits = refl; ungranted = refl }) refl flew refl refl

  -- ---- a limit's place

  pub take_limit_kept : (limit : ℕ) → limit < 255 → (W.limit limit).running + 1 ≤ (W.limit limit).most
      → Kept n (with_limit W limit (record { most = (W.limit limit).most; running = (W.limit limit).running + 1 })) (set views id (granted_limit v limit item))
  take_limit_kept limit lt fits =
      grants_limit_kept n W views id v (granted_limit v limit item) item K at seated (stays_holding v v.takes (limit ∷ v.limits) v.rooms v.claims v.ungranted v.ungranted_limit (v.trail ++ item ∷ [])) refl found other limit lt (record { rooms = refl }) (record { takes = refl; ungranted = refl }) refl fits refl refl

  pub take_limit_short_kept : (limit : ℕ) → limit < 255 → seats v ≡ 1 → v.ungranted_limit ≡ None
      → Kept n (with_limit W limit (record { most = (W.limit limit).most; running = (W.limit limit).running + 1 })) (set views id (asked_limit v limit item))
  take_limit_short_kept limit lt one none =
      overshoots_limit_kept n W views id v (asked_limit v limit item) item K at seated (stays_holding v v.takes v.limits v.rooms v.claims v.ungranted (Some limit) (v.trail ++ item ∷ [])) refl found other limit lt (record { rooms = refl }) (record { takes = refl; ungranted = refl }) refl one none refl refl

  pub give_limit_kept : (limit : ℕ) → limit < 255 → holds same_limit limit v.limits ≡ true
      → Kept n (with_limit W limit (record { most = (W.limit limit).most; running = (W.limit limit).running - 1 })) (set views id (given_limit v limit item))
  give_limit_kept limit lt has =
      gives_limit_kept n W views id v (given_limit v limit item) item K at seated (stays_holding v v.takes (without same_limit limit v.limits) v.rooms v.claims v.ungranted v.ungranted_limit (v.trail ++ item ∷ [])) refl found other limit lt (record { rooms = refl }) (record { takes = refl; ungranted = refl }) refl has refl refl

  pub retract_limit_kept : (limit : ℕ) → limit < 255 → v.ungranted_limit ≡ Some limit
      → Kept n (with_limit W limit (record { most = (W.limit limit).most; running = (W.limit limit).running - 1 })) (set views id (retracted_limit v item))
  retract_limit_kept limit lt flew =
      retracts_limit_kept n W views id v (retracted_limit v item) item K at seated (stays_holding v v.takes v.limits v.rooms v.claims v.ungranted (None) (v.trail ++ item ∷ [])) refl found other limit lt (record { rooms = refl }) (record { takes = refl; ungranted = refl }) refl flew refl refl

  -- ---- a host's room

  pub take_host_kept : (host cores memory : ℕ) → host < 4096 → cores ≤ (W.host host).cores → memory ≤ (W.host host).memory
      → Kept n (with_host W host (record { cores = (W.host host).cores - cores; memory = (W.host host).memory - memory })) (set views id (with_room v (room_of host cores memory) item))
  take_host_kept host cores memory lt some_cores some_memory =
      takes_room_kept n W views id v (with_room v (room_of host cores memory) item) item K at seated (stays_holding v v.takes v.limits (room_of host cores memory ∷ v.rooms) v.claims v.ungranted v.ungranted_limit (v.trail ++ item ∷ [])) refl found other host cores memory lt (record { takes = refl; ungranted = refl }) (record { limits = refl; ungranted = refl }) refl some_cores some_memory refl

  pub give_host_kept : (host cores memory : ℕ) → host < 4096 → IsSettledFor K v host → holds same_room (room_of host cores memory) v.rooms ≡ true
      → Kept n (with_host W host (record { cores = (W.host host).cores + cores; memory = (W.host host).memory + memory })) (set views id (without_room v (room_of host cores memory) item))
  give_host_kept host cores memory lt settled has =
      gives_room_kept n W views id v (without_room v (room_of host cores memory) item) item K at seated (stays_holding v v.takes v.limits (without same_room (room_of host cores memory) v.rooms) v.claims v.ungranted v.ungranted_limit (v.trail ++ item ∷ [])) refl found other host cores memory lt (record { takes = refl; ungranted = refl }) (record { limits = refl; ungranted = refl }) refl settled has refl

  -- ---- a claim

  pub claim_kept : (c : Claim) (version : ℕ) (seen : AmountWord) → c.slot < 65536 → c.version ≡ version + 1 → c.version < 16777216
      → W.frame c.slot ≡ record { phase = 1; version = version; host = 0; cores = c.cores }
      → sub_of (W.amount c.slot).show ((records_of K).alloc c.host) ≡ c.sub
      → HasLook v.trail (record { slot = c.slot; version = version; cores = c.cores; amount = Some seen }) → seen.limit ≡ c.limit → seen.memory ≡ c.memory
      → holds same_take (take_in c) v.takes ≡ true → holds_limit c.limit v.limits ≡ true → holds same_room (room_in c) v.rooms ≡ true
      → SuitsOnce (farm_of K.opening) K.log c → IsSettledFor K v c.host
      → Kept n (with_frame W c.slot (record { phase = 3; version = c.version; host = c.host; cores = c.cores })) (set views id (claimed v c item))
  claim_kept c version seen lt next below was bills look limit memory has_take has_limit has_room suits settled =
      wins_kept n W views id v (claimed v c item) item K at seated
      (stays_holding v (claimed v c item).takes (claimed v c item).limits (claimed v c item).rooms (claimed v c item).claims v.ungranted v.ungranted_limit (v.trail ++ item ∷ []))
      refl found other c version seen lt next below was bills look limit memory
      (record { has_take = has_take; has_limit = has_limit; has_room = has_room; takes = refl; limits = refl; rooms = refl; ungranted = refl; ungranted_limit = refl }) refl suits settled

  pub drop_claim_kept : (c : Claim) → c.slot < 65536 → W.frame c.slot ≡ record { phase = 3; version = c.version; host = c.host; cores = c.cores } → holds same_claim c v.claims ≡ true
      → Kept n (with_frame W c.slot (record { phase = 1; version = c.version - 1; host = 0; cores = c.cores })) (set views id (dropped v c item))
  drop_claim_kept c lt was has =
      drops_kept n W views id v (dropped v c item) item K at seated
      (stays_holding v (dropped v c item).takes (dropped v c item).limits (dropped v c item).rooms (dropped v c item).claims v.ungranted v.ungranted_limit (v.trail ++ item ∷ []))
      refl found other c lt was has
      (record { takes = refl; limits = refl; rooms = refl; ungranted = refl; ungranted_limit = refl }) refl
