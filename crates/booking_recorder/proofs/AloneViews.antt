-- What the recorder's own seat holds on its way to a booking, step by step.
use Rattle.std.proofs.Common.{◌≡◌, ℕ, suc, ◌+◌, ◌==◌, ◌&&◌, ◌||◌, Bool, true, false, if◌then◌else◌, List, [], ◌∷◌, ◌++◌, append_assoc, length, take, sym, refl, ap, ◌∙◌, subst, arith}
use Rattle.std.specs.Prelude.{Option, Some, None}
use mathlib.Core.List.{IsPrefix}
use Rattle.farm_types.specs.declared.entry.Entry.{Entry}
use Rattle.farm_types.specs.Booking.{suits}
use Rattle.farm_types.specs.Farm.{Farm}
use Rattle.farm_types.specs.Run.{run_of}
use Rattle.booking_rule.specs.declared.desk.Desk.{Desk}
use Rattle.booking_rule.specs.declared.hold.Claim as rule
use Rattle.booking_rule.specs.declared.hold.Room.{Room}
use Rattle.booking_rule.specs.declared.hold.Take.{Take}
use Rattle.booking_rule.specs.declared.noted.Noted.{Noted}
use Rattle.booking_rule.specs.declared.opening.Opening.{Opening}
use Rattle.booking_rule.specs.declared.view.View.{View}
use Rattle.booking_rule.specs.Alone.{IsAlone}
use Rattle.booking_rule.specs.Kept.{farm_in}
use Rattle.booking_rule.specs.Link.{IsDone, farm_of, limit_code}
use Rattle.booking_rule.specs.Looks.{HasLook}
use Rattle.booking_rule.specs.Seats.{desk_seats, number_seats, seats}
use Rattle.booking_rule.specs.Views.{asked, asked_limit, claimed, granted, granted_limit, holds, holds_limit, limit_take, room_of, same_claim, same_limit, same_room, same_take, take_of, without, without_limit}
use Rattle.booking_rule.proofs.Moves.{same_self}
use Rattle.booking_core.specs.Kinds.{burst_given, burst_taken, gave_burst, gave_host, host_given, limit_given, limit_taken, retracted_burst}
use Rattle.booking_core.specs.Kinds as kinds
use Rattle.booking_core.specs.Machine.{CanTake, IsIdle, MayGive, MayGiveRoom}
use Rattle.booking_core.proofs.Seated.{settled_idle}
use Rattle.booking_table.specs.declared.burst.BurstFull.{BurstFull}
use Rattle.booking_table.specs.declared.holds.BurstHold.{BurstHold}
use Rattle.booking_table.specs.declared.limit.LimitFull.{LimitFull}
use Rattle.booking_table.specs.declared.holds.Claim.{Claim}
use Rattle.booking_table.specs.declared.holds.Hold.{Hold}
use Rattle.booking_table.specs.declared.room.HostShort.{HostShort}
use Rattle.booking_table.specs.declared.room.HostShort.TheVariants as host_short
use Rattle.booking_table.specs.declared.seen.Seen.{Seen}
use Rattle.booking_table.specs.Calls.{IsBurstFull, IsBurstTaken, IsLimitFull, IsLimitTaken, IsRoomTaken, IsShort, SuitsAt, hold_given, look_by, looked, place_given, unclaimed}
use Rattle.booking_table.specs.Holds.{claim_of}
use Rattle.booking_table.proofs.Looked.{looks_stay}
use Rattle.recording_core.proofs.Confirming.{desk_seated}
use Rattle.recording_turns.specs.Resting.{IsAtRest, IsSettled, WentOn, split_in}
use Rattle.recording_turns.proofs.CarryingViews.{went_then}
use Rattle.recording_turns.proofs.RestingAlone.{alone_settled}
use Rattle.booking_recorder.specs.Alone.{GoesAlone, HoldsAlone, OwnsClaim, places_in}
use Rattle.booking_recorder.specs.Views.{Stays}
use Rattle.booking_recorder.proofs.Rests.{farm_same}

-- ---- at rest

pub rests_alone : (v : View) → HoldsAlone [] [] [] [] v → IsAtRest v
rests_alone v h = record {
  settled = h.settled;
  free = record { takes = h.takes; limits = h.limits; rooms = h.rooms; claims = h.claims; burst = h.burst; place = h.place };
}

pub alone_of : (ts : List Take) (ls : List ℕ) (rs : List Room) (cs : List rule.Claim) (v : View) → HoldsAlone ts ls rs cs v → IsAlone cs v
alone_of ts ls rs cs v h = alone_settled cs v h.settled h.split h.claims

-- ---- steps that leave the desk and the journal

-- only what is held, what is in flight and the trail are others
abbrev IsHolding : View → View → Type 0
IsHolding v w =
    w ≡ record v { takes = w.takes; limits = w.limits; rooms = w.rooms; claims = w.claims; ungranted = w.ungranted; ungranted_limit = w.ungranted_limit; trail = w.trail }

settled_on : (v w : View) → IsHolding v w → IsSettled v → IsSettled w
settled_on v w like s = record {
  desk = s.desk;
  first = ap (λ (x : View). x.desk) like ∙ s.first;
  log = s.log;
  placed = s.placed;
  pending = s.pending;
  done = subst (λ (x : Opening × List Entry). IsDone x.0 x.1 s.desk)
      (λ i. (sym (ap (λ (x : View). x.opening) like) i, sym (ap (λ (x : View). x.journal) like) i)) s.done;
}

module _ (ts : List Take) (ls : List ℕ) (rs : List Room) (cs : List rule.Claim) (ts' : List Take) (ls' : List ℕ) (rs' : List Room) (cs' : List rule.Claim) where
  goes_to : (v w : View) → HoldsAlone ts ls rs cs v → IsHolding v w → IsPrefix v.trail w.trail → w.takes ≡ ts' → w.limits ≡ ls' → w.rooms ≡ rs'
      → w.claims ≡ cs' → w.ungranted ≡ None → w.ungranted_limit ≡ None → GoesAlone v ts' ls' rs' cs' w
  goes_to v w h like trail takes limits rooms claims burst place =
      let desk : w.desk ≡ v.desk = ap (λ (x : View). x.desk) like in
      let held : View =
      record v { takes = w.takes; limits = w.limits; rooms = w.rooms; claims = w.claims; ungranted = w.ungranted; ungranted_limit = w.ungranted_limit; trail = w.trail } in
      record {
        went = record { like = like ∙ (λ i. record held { desk = sym desk i }); split = ap split_in desk; trail = trail };
        alone = record {
          settled = settled_on v w like h.settled;
          split = ap split_in desk ∙ h.split;
          number = ap (λ (x : View). x.number) like ∙ h.number;
          takes = takes;
          limits = limits;
          rooms = rooms;
          claims = claims;
          burst = burst;
          place = place;
        };
      }

-- one step after the other
pub goes_then : (ts : List Take) (ls : List ℕ) (rs : List Room) (cs : List rule.Claim) (u v w : View) → WentOn u v → GoesAlone v ts ls rs cs w → GoesAlone u ts ls rs cs w
goes_then ts ls rs cs u v w first second = record { went = went_then u v w first second.went; alone = second.alone }

one_more : (l : List Noted) (a : Noted) → IsPrefix l (l ++ a ∷ [])
one_more l a = (a ∷ [], refl)

two_more : (l : List Noted) (a b : Noted) → IsPrefix l ((l ++ a ∷ []) ++ b ∷ [])
two_more l a b = (a ∷ b ∷ [], sym (append_assoc l (a ∷ []) (b ∷ [])))

-- ---- what the calls ask

module _ (ts : List Take) (ls : List ℕ) (rs : List Room) (cs : List rule.Claim) (v : View) (h : HoldsAlone ts ls rs cs v) where
  pub one_seat : seats v ≡ 1
  one_seat =
      (λ i. desk_seats (h.settled.first i) + number_seats (h.number i))
      ∙ ap (λ (n : ℕ). (if n == 0 then 1 else 0) + 0) (sym (ap split_in h.settled.first) ∙ h.split)

  pub may_take : CanTake v
  may_take = (one_seat, h.burst, h.place)

  pub is_idle : IsIdle v
  is_idle d is = subst (λ (x : Desk). IsDone v.opening v.journal x × (x.pending ≡ None)) (same d is) (h.settled.done, h.settled.pending)
    where
      same : (x : Desk) → v.desk ≡ Some x → h.settled.desk ≡ x
      same x q = some_same (sym h.settled.first ∙ q)
        where
          some_same : Some h.settled.desk ≡ Some x → h.settled.desk ≡ x
          some_same e = cc

  pub may_return : MayGive v
  may_return = (
    desk_seated v h.settled.desk h.settled.first,
    λ d is none. past (sym h.settled.placed ∙ (ap (λ (x : Desk). x.before) (same d is) ∙ none)),
  )
    where
      past : Some h.settled.log ≡ None → ⊥
      past q = cc

      same : (x : Desk) → v.desk ≡ Some x → h.settled.desk ≡ x
      same x q = some_same (sym h.settled.first ∙ q)
        where
          some_same : Some h.settled.desk ≡ Some x → h.settled.desk ≡ x
          some_same e = cc

  pub may_return_room : (host : ℕ) → MayGiveRoom v host
  may_return_room host = settled_idle v host is_idle

-- ---- a look

pub looked_on : (v w : View) (slot frame amount : ℕ) → IsAtRest v → split_in v.desk ≡ 0 → v.number ≡ None → w ≡ looked v slot frame amount
    → GoesAlone v [] [] [] [] w
looked_on v w slot frame amount rests split number is =
    let f = rests.free in
    let h : HoldsAlone [] [] [] [] v = record {
      settled = rests.settled;
      split = split;
      number = number;
      takes = f.takes;
      limits = f.limits;
      rooms = f.rooms;
      claims = f.claims;
      burst = f.burst;
      place = f.place;
    } in
    subst (GoesAlone v [] [] [] []) (sym is)
    (goes_to [] [] [] [] [] [] [] [] v (looked v slot frame amount) h refl (two_more v.trail _ _) f.takes f.limits f.rooms f.claims f.burst f.place)

-- ---- cores of a subscription

module _ (v w : View) (sub cores : ℕ) (h : HoldsAlone [] [] [] [] v) where
  pub cores_taken : IsBurstTaken v sub cores w → GoesAlone v (take_of sub cores ∷ []) [] [] [] w
  cores_taken taken =
      let item = burst_taken sub cores taken.0 in
      subst (GoesAlone v (take_of sub cores ∷ []) [] [] []) (sym taken.3)
      (goes_to [] [] [] [] (take_of sub cores ∷ []) [] [] [] v (granted v (take_of sub cores) item) h refl (one_more v.trail item)
      (ap (λ (l : List Take). take_of sub cores ∷ l) h.takes) h.limits h.rooms h.claims h.burst h.place)

  pub cores_lost : (full : BurstFull) → IsBurstFull v sub cores full w → GoesAlone v [] [] [] [] w
  cores_lost full lost =
      let u = asked v (take_of sub cores) (burst_taken sub cores lost.0) in
      subst (GoesAlone v [] [] [] []) (sym lost.5)
      (goes_to [] [] [] [] [] [] [] [] v (retracted_burst u sub cores lost.1) h refl (two_more v.trail _ _) h.takes h.limits h.rooms h.claims refl h.place)

-- ---- a place in a limit

module _ (ts : List Take) (v w : View) (limit : ℕ) (h : HoldsAlone ts [] [] [] v) where
  pub place_taken : IsLimitTaken v limit w → GoesAlone v ts (limit ∷ []) [] [] w
  place_taken taken =
      let item = limit_taken limit taken.0 in
      subst (GoesAlone v ts (limit ∷ []) [] []) (sym taken.3)
      (goes_to ts [] [] [] ts (limit ∷ []) [] [] v (granted_limit v limit item) h refl (one_more v.trail item)
      h.takes (ap (λ (l : List ℕ). limit ∷ l) h.limits) h.rooms h.claims h.burst h.place)

  pub place_lost : (full : LimitFull) → IsLimitFull v limit full w → GoesAlone v ts [] [] [] w
  place_lost full lost =
      let u = asked_limit v limit (limit_taken limit lost.0) in
      subst (GoesAlone v ts [] [] []) (sym lost.5)
      (goes_to ts [] [] [] ts [] [] [] v (kinds.retracted_limit u limit lost.1) h refl (two_more v.trail _ _) h.takes h.limits h.rooms h.claims h.burst refl)

-- ---- what is held goes back

take_self : (t : Take) → same_take t t ≡ true
take_self t = λ i. same_self t.sub i && same_self t.cores i

room_self : (r : Room) → same_room r r ≡ true
room_self r = λ i. same_self r.host i && (same_self r.cores i && same_self r.memory i)

pub has_take : (t : Take) (l : List Take) → l ≡ t ∷ [] → holds same_take t l ≡ true
has_take t l is = ap (holds same_take t) is ∙ ap (λ (b : Bool). b || false) (take_self t)

pub has_room : (r : Room) (l : List Room) → l ≡ r ∷ [] → holds same_room r l ≡ true
has_room r l is = ap (holds same_room r) is ∙ ap (λ (b : Bool). b || false) (room_self r)

pub has_place : (o : Option ℕ) (l : List ℕ) → l ≡ places_in o → holds_limit (limit_code o) l ≡ true
has_place None l is = refl
has_place (Some n) l is =
    let more : n + 1 ≡ suc n = omega arith in
    subst (λ (k : ℕ). holds_limit k l ≡ true) (sym more) (ap (holds same_limit n) is ∙ ap (λ (b : Bool). b || false) (same_self n))

no_take : (t : Take) (l : List Take) → l ≡ t ∷ [] → without same_take t l ≡ []
no_take t l is = ap (without same_take t) is ∙ ap (λ (b : Bool). if b then [] else t ∷ []) (take_self t)

no_room : (r : Room) (l : List Room) → l ≡ r ∷ [] → without same_room r l ≡ []
no_room r l is = ap (without same_room r) is ∙ ap (λ (b : Bool). if b then [] else r ∷ []) (room_self r)

no_place : (o : Option ℕ) (l : List ℕ) → l ≡ places_in o → without_limit (limit_code o) l ≡ []
no_place None l is = is
no_place (Some n) l is =
    let more : n + 1 ≡ suc n = omega arith in
    subst (λ (k : ℕ). without_limit k l ≡ []) (sym more)
    (ap (without same_limit n) is ∙ ap (λ (b : Bool). if b then [] else n ∷ []) (same_self n))

pub took_place : (o : Option ℕ) → limit_take (limit_code o) ++ [] ≡ places_in o
took_place None = refl
took_place (Some n) = let more : n + 1 ≡ suc n = omega arith in ap (λ (k : ℕ). limit_take k ++ []) more

pub place_back : (v : View) (o : Option ℕ) (found : ℕ) (ts : List Take) (rs : List Room) (cs : List rule.Claim) → HoldsAlone ts (places_in o) rs cs v
    → GoesAlone v ts [] rs cs (place_given v o found)
place_back v None found ts rs cs h =
    goes_to ts [] rs cs ts [] rs cs v v h refl ([], append_nil v.trail) h.takes h.limits h.rooms h.claims h.burst h.place
  where
    append_nil : (l : List Noted) → l ++ [] ≡ l
    append_nil [] = refl
    append_nil (x ∷ xs) = ap (λ (l : List Noted). x ∷ l) (append_nil xs)
place_back v (Some limit) found ts rs cs h =
    goes_to ts (limit ∷ []) rs cs ts [] rs cs v (kinds.gave_limit v limit found) h refl (one_more v.trail (limit_given limit found))
    h.takes
    (ap (without same_limit limit) h.limits ∙ ap (λ (b : Bool). if b then [] else limit ∷ []) (same_self limit))
    h.rooms h.claims h.burst h.place

cores_back : (v : View) (sub cores found : ℕ) (ls : List ℕ) (rs : List Room) (cs : List rule.Claim) → HoldsAlone (take_of sub cores ∷ []) ls rs cs v
    → GoesAlone v [] ls rs cs (gave_burst v sub cores found)
cores_back v sub cores found ls rs cs h =
    goes_to (take_of sub cores ∷ []) ls rs cs [] ls rs cs v (gave_burst v sub cores found) h refl (one_more v.trail (burst_given sub cores found))
    (no_take (take_of sub cores) v.takes h.takes) h.limits h.rooms h.claims h.burst h.place

room_back : (v : View) (host cores memory found : ℕ) (ts : List Take) (ls : List ℕ) (cs : List rule.Claim)
    → HoldsAlone ts ls (room_of host cores memory ∷ []) cs v → GoesAlone v ts ls [] cs (gave_host v host cores memory found)
room_back v host cores memory found ts ls cs h =
    goes_to ts ls (room_of host cores memory ∷ []) cs ts ls [] cs v (gave_host v host cores memory found) h refl
    (one_more v.trail (host_given host (kinds.host_amounts cores memory) found))
    h.takes h.limits (no_room (room_of host cores memory) v.rooms h.rooms) h.claims h.burst h.place

-- cores with their place
pub burst_back : (v w : View) (o : Option ℕ) (sub cores place found : ℕ) → HoldsAlone (take_of sub cores ∷ []) (places_in o) [] [] v
    → w ≡ gave_burst (place_given v o place) sub cores found → GoesAlone v [] [] [] [] w
burst_back v w o sub cores place found h is =
    let u = place_given v o place in
    let first = place_back v o place (take_of sub cores ∷ []) [] [] h in
    subst (GoesAlone v [] [] [] []) (sym is) (goes_then [] [] [] [] v u (gave_burst u sub cores found) first.went (cores_back u sub cores found [] [] [] first.alone))

-- .. by what is held for them
pub returned : (v w : View) (burst : BurstHold) (o : Option ℕ) (sub cores place found : ℕ) → burst ≡ record { sub = sub; cores = cores; limit = o }
    → HoldsAlone (take_of sub cores ∷ []) (places_in o) [] [] v → w ≡ gave_burst (place_given v burst.limit place) burst.sub burst.cores found
    → GoesAlone v [] [] [] [] w
returned v w burst o sub cores place found held h is =
    burst_back v w o sub cores place found h (is ∙ ap (λ (b : BurstHold). gave_burst (place_given v b.limit place) b.sub b.cores found) held)

-- .. and with room
pub hold_back : (v w : View) (hold : Hold) (room place found : ℕ)
    → HoldsAlone (take_of hold.burst.sub hold.burst.cores ∷ []) (places_in hold.burst.limit) (room_of hold.host hold.burst.cores hold.memory ∷ []) [] v
    → w ≡ hold_given v hold room place found → GoesAlone v [] [] [] [] w
hold_back v w hold room place found h is =
    let u = gave_host v hold.host hold.burst.cores hold.memory room in
    let first = room_back v hold.host hold.burst.cores hold.memory room (take_of hold.burst.sub hold.burst.cores ∷ []) (places_in hold.burst.limit) [] h in
    goes_then [] [] [] [] v u w first.went (burst_back u w hold.burst.limit hold.burst.sub hold.burst.cores place found first.alone is)

-- ---- room

module _ (ts : List Take) (ls : List ℕ) (v w : View) (host cores memory : ℕ) (h : HoldsAlone ts ls [] [] v) where
  pub room_taken : IsRoomTaken v host cores memory w → GoesAlone v ts ls (room_of host cores memory ∷ []) [] w
  room_taken taken =
      subst (GoesAlone v ts ls (room_of host cores memory ∷ []) []) (sym taken.3)
      (goes_to ts ls [] [] ts ls (room_of host cores memory ∷ []) [] v _ h refl (two_more v.trail _ _)
      h.takes h.limits (ap (λ (l : List Room). room_of host cores memory ∷ l) h.rooms) h.claims h.burst h.place)

  pub room_lost : (short : HostShort) → IsShort v host cores memory short w → GoesAlone v ts ls [] [] w
  room_lost (host_short.NoRoom free_cores free_memory) lost =
      subst (GoesAlone v ts ls [] []) (sym lost.4)
      (goes_to ts ls [] [] ts ls [] [] v _ h refl (one_more v.trail _) h.takes h.limits h.rooms h.claims h.burst h.place)
  room_lost (host_short.Moved expected found) lost =
      subst (GoesAlone v ts ls [] []) (sym lost.3)
      (goes_to ts ls [] [] ts ls [] [] v _ h refl (two_more v.trail _ _) h.takes h.limits h.rooms h.claims h.burst h.place)

-- ---- the claim

pub claim_held : (v w : View) (c : rule.Claim) (o : Option ℕ) (item : Noted)
    → HoldsAlone (take_of c.sub c.cores ∷ []) (places_in o) (room_of c.host c.cores c.memory ∷ []) [] v → c.limit ≡ limit_code o
    → w ≡ claimed v c item → GoesAlone v [] [] [] (c ∷ []) w
claim_held v w c o item h limit is =
    subst (GoesAlone v [] [] [] (c ∷ [])) (sym is)
    (goes_to (take_of c.sub c.cores ∷ []) (places_in o) (room_of c.host c.cores c.memory ∷ []) [] [] [] [] (c ∷ []) v (claimed v c item) h refl
    (one_more v.trail item)
    (no_take (take_of c.sub c.cores) v.takes h.takes)
    (ap (λ (k : ℕ). without_limit k v.limits) limit ∙ no_place o v.limits h.limits)
    (no_room (room_of c.host c.cores c.memory) v.rooms h.rooms)
    (ap (λ (l : List rule.Claim). c ∷ l) h.claims) h.burst h.place)

-- the claim is a hold again
pub dropped_held : (v : View) (c : Claim) → OwnsClaim c v
    → GoesAlone v (take_of c.hold.burst.sub c.hold.burst.cores ∷ []) (places_in c.hold.burst.limit)
    (room_of c.hold.host c.hold.burst.cores c.hold.memory ∷ []) [] (unclaimed v c)
dropped_held v c o =
    let h = o.alone in
    let k = claim_of c in
    goes_to [] [] [] (k ∷ []) (take_of k.sub k.cores ∷ []) (places_in c.hold.burst.limit) (room_of k.host k.cores k.memory ∷ []) [] v (unclaimed v c) h refl
    (one_more v.trail _)
    (ap (λ (l : List Take). take_of k.sub k.cores ∷ l) h.takes)
    (ap (λ (l : List ℕ). limit_take k.limit ++ l) h.limits ∙ took_place c.hold.burst.limit)
    (ap (λ (l : List Room). room_of k.host k.cores k.memory ∷ l) h.rooms)
    (ap (without same_claim k) h.claims ∙ ap (λ (b : Bool). if b then [] else k ∷ []) (claim_self k)) h.burst h.place
  where
    claim_self : (x : rule.Claim) → same_claim x x ≡ true
    claim_self x =
        λ i. same_self x.slot i && (same_self x.version i && (same_self x.host i && (same_self x.sub i && (same_self x.cores i && (same_self x.limit i && same_self x.memory i)))))

-- ---- what stays on the way

pub farm_went : (v w : View) → WentOn v w → farm_in w ≡ farm_in v
farm_went v w went = farm_same v w (ap (λ (x : View). x.opening) went.like) (ap (λ (x : View). x.journal) went.like)

pub look_went : (v w : View) (seen : Seen) → WentOn v w → HasLook v.trail (look_by seen) → HasLook w.trail (look_by seen)
look_went v w seen went look =
    subst (λ (l : List Noted). HasLook l (look_by seen)) went.trail.1 (looks_stay v.trail went.trail.0 seen look)

take_all : {A : Type 0} (xs : List A) → take (length xs) xs ≡ xs
take_all [] = refl
take_all {A = A} (x ∷ xs) = ap (λ (l : List A). x ∷ l) (take_all xs)

pub suits_now : (v : View) (f : Farm) (slot version host sub : ℕ) → f ≡ farm_in v
    → suits f slot version host sub ≡ true → SuitsAt v slot version host sub
suits_now v f slot version host sub leads suited = (
  length v.journal,
  omega arith,
  subst (λ (g : Farm). suits g slot version host sub ≡ true)
      (leads ∙ ap (run_of (farm_of v.opening)) (sym (take_all v.journal))) suited,
)

-- a seat that is at rest again has nothing but a longer trail
pub stays_rested : (v w : View) → IsAtRest v → IsAtRest w → WentOn v w → Stays v w
stays_rested v w before now went =
    let a = before.free in
    let b = now.free in record {
      like = went.like
          ∙ λ i. record v {
            desk = w.desk;
            takes = (b.takes ∙ sym a.takes) i;
            limits = (b.limits ∙ sym a.limits) i;
            rooms = (b.rooms ∙ sym a.rooms) i;
            claims = (b.claims ∙ sym a.claims) i;
            ungranted = (b.burst ∙ sym a.burst) i;
            ungranted_limit = (b.place ∙ sym a.place) i;
            trail = w.trail;
          };
      split = went.split;
      trail = went.trail;
    }
