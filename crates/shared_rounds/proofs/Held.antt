-- What a pass holds on its way to a claim, step by step.
use Rattle.std.proofs.Common.{◌≡◌, ℕ, suc, ◌+◌, ◌&&◌, ◌||◌, Bool, true, false, if◌then◌else◌, List, [], ◌∷◌, ◌++◌, append_assoc, sym, refl, ap, ◌∙◌, subst, arith}
use Rattle.std.specs.Prelude.{Option, Some, None}
use mathlib.Core.List.{IsPrefix}
use Rattle.booking_rule.specs.declared.hold.Claim as rule
use Rattle.booking_rule.specs.declared.hold.Room.{Room}
use Rattle.booking_rule.specs.declared.hold.Take.{Take}
use Rattle.booking_rule.specs.declared.noted.Noted.{Noted}
use Rattle.booking_rule.specs.declared.view.View.{View}
use Rattle.booking_rule.specs.Link.{limit_code}
use Rattle.booking_rule.specs.Views.{asked, asked_limit, claimed, granted, granted_limit, holds, holds_limit, limit_take, noted, room_of, same_limit, same_room, same_take, take_of, without, without_limit}
use Rattle.booking_rule.proofs.Moves.{same_self}
use Rattle.booking_core.specs.Kinds.{burst_given, burst_taken, gave_burst, gave_host, host_given, limit_given, limit_taken, retracted_burst}
use Rattle.booking_core.specs.Kinds as kinds
use Rattle.booking_table.specs.declared.burst.BurstFull.{BurstFull}
use Rattle.booking_table.specs.declared.claiming.Dropped.{Dropped}
use Rattle.booking_table.specs.declared.claiming.Dropped.TheVariants as dropping
use Rattle.booking_table.specs.declared.holds.Claim.{Claim}
use Rattle.booking_table.specs.declared.holds.Hold.{Hold}
use Rattle.booking_table.specs.declared.limit.LimitFull.{LimitFull}
use Rattle.booking_table.specs.declared.room.HostShort.{HostShort}
use Rattle.booking_table.specs.declared.room.HostShort.TheVariants as host_short
use Rattle.booking_table.specs.Calls.{IsBurstFull, IsBurstTaken, IsDropped, IsLimitFull, IsLimitTaken, IsRoomTaken, IsShort, hold_given, looked, place_given, unclaimed}
use Rattle.booking_table.specs.Holds.{claim_of}
use Rattle.shared_bot.specs.booking_recorder.specs.Alone.{places_in}
use Rattle.shared_rounds.specs.Holding.{GoesJust, HoldsJust, StepsOn}

-- ---- steps

-- only what is held, what is in flight and the trail are others
abbrev IsHolding : View → View → Type 0
IsHolding v w =
    w ≡ record v { takes = w.takes; limits = w.limits; rooms = w.rooms; claims = w.claims; ungranted = w.ungranted; ungranted_limit = w.ungranted_limit; trail = w.trail }

goes_to : (ts : List Take) (ls : List ℕ) (rs : List Room) (v w : View) → IsHolding v w → IsPrefix v.trail w.trail → w.takes ≡ ts → w.limits ≡ ls → w.rooms ≡ rs
    → w.ungranted ≡ None → w.ungranted_limit ≡ None → GoesJust v ts ls rs w
goes_to ts ls rs v w like trail takes limits rooms burst place = record {
  steps = record { like = like; trail = trail };
  holds = record { takes = takes; limits = limits; rooms = rooms; burst = burst; place = place };
}

pub prefix_then : {A : Type 0} (xs ys zs : List A) → IsPrefix xs ys → IsPrefix ys zs → IsPrefix xs zs
prefix_then {A = A} xs ys zs first second =
    (first.0 ++ second.0, sym (append_assoc xs first.0 second.0) ∙ (ap (λ (l : List A). l ++ second.0) first.1 ∙ second.1))

pub steps_then : (u v w : View) → StepsOn u v → StepsOn v w → StepsOn u w
steps_then u v w first second = record {
  like = second.like
      ∙ λ i. record (first.like i) {
        takes = w.takes;
        limits = w.limits;
        rooms = w.rooms;
        claims = w.claims;
        ungranted = w.ungranted;
        ungranted_limit = w.ungranted_limit;
        trail = w.trail;
      };
  trail = prefix_then u.trail v.trail w.trail first.trail second.trail;
}

pub goes_then : (ts : List Take) (ls : List ℕ) (rs : List Room) (u v w : View) → StepsOn u v → GoesJust v ts ls rs w → GoesJust u ts ls rs w
goes_then ts ls rs u v w first second = record { steps = steps_then u v w first second.steps; holds = second.holds }

one_more : (l : List Noted) (a : Noted) → IsPrefix l (l ++ a ∷ [])
one_more l a = (a ∷ [], refl)

two_more : (l : List Noted) (a b : Noted) → IsPrefix l ((l ++ a ∷ []) ++ b ∷ [])
two_more l a b = (a ∷ b ∷ [], sym (append_assoc l (a ∷ []) (b ∷ [])))

-- ---- a look

pub looked_on : (v w : View) (slot frame amount : ℕ) → HoldsJust [] [] [] v → w ≡ looked v slot frame amount → GoesJust v [] [] [] w
looked_on v w slot frame amount h is =
    subst (GoesJust v [] [] []) (sym is) (goes_to [] [] [] v (looked v slot frame amount) refl (two_more v.trail _ _) h.takes h.limits h.rooms h.burst h.place)

-- ---- cores of a subscription

module _ (v w : View) (sub cores : ℕ) (h : HoldsJust [] [] [] v) where
  pub cores_taken : IsBurstTaken v sub cores w → GoesJust v (take_of sub cores ∷ []) [] [] w
  cores_taken taken =
      let item = burst_taken sub cores taken.0 in
      subst (GoesJust v (take_of sub cores ∷ []) [] []) (sym taken.3)
      (goes_to (take_of sub cores ∷ []) [] [] v (granted v (take_of sub cores) item) refl (one_more v.trail item)
      (ap (λ (l : List Take). take_of sub cores ∷ l) h.takes) h.limits h.rooms h.burst h.place)

  pub cores_lost : (full : BurstFull) → IsBurstFull v sub cores full w → GoesJust v [] [] [] w
  cores_lost full lost =
      let u = asked v (take_of sub cores) (burst_taken sub cores lost.0) in
      subst (GoesJust v [] [] []) (sym lost.5)
      (goes_to [] [] [] v (retracted_burst u sub cores lost.1) refl (two_more v.trail _ _) h.takes h.limits h.rooms refl h.place)

-- ---- a place in a limit

module _ (ts : List Take) (v w : View) (limit : ℕ) (h : HoldsJust ts [] [] v) where
  pub place_taken : IsLimitTaken v limit w → GoesJust v ts (limit ∷ []) [] w
  place_taken taken =
      let item = limit_taken limit taken.0 in
      subst (GoesJust v ts (limit ∷ []) []) (sym taken.3)
      (goes_to ts (limit ∷ []) [] v (granted_limit v limit item) refl (one_more v.trail item)
      h.takes (ap (λ (l : List ℕ). limit ∷ l) h.limits) h.rooms h.burst h.place)

  pub place_lost : (full : LimitFull) → IsLimitFull v limit full w → GoesJust v ts [] [] w
  place_lost full lost =
      let u = asked_limit v limit (limit_taken limit lost.0) in
      subst (GoesJust v ts [] []) (sym lost.5)
      (goes_to ts [] [] v (kinds.retracted_limit u limit lost.1) refl (two_more v.trail _ _) h.takes h.limits h.rooms h.burst refl)

-- ---- what is held goes back

take_self : (t : Take) → same_take t t ≡ true
take_self t = λ i. same_self t.sub i && same_self t.cores i

room_self : (r : Room) → same_room r r ≡ true
room_self r = λ i. same_self r.host i && (same_self r.cores i && same_self r.memory i)

pub has_take : (t : Take) (l : List Take) → l ≡ t ∷ [] → holds same_take t l ≡ true
has_take t l is = ap (holds same_take t) is ∙ ap (λ (b : Bool). b || false) (take_self t)

pub has_room : (r : Room) (l : List Room) → l ≡ r ∷ [] → holds same_room r l ≡ true
has_room r l is = ap (holds same_room r) is ∙ ap (λ (b : Bool). b || false) (room_self r)

pub has_place : (o : Option ℕ) (l : List ℕ) → l ≡ places_in o → holds_limit (limit_code o) l ≡ true
has_place None l is = refl
has_place (Some n) l is =
    let more : n + 1 ≡ suc n = omega arith in
    subst (λ (k : ℕ). holds_limit k l ≡ true) (sym more) (ap (holds same_limit n) is ∙ ap (λ (b : Bool). b || false) (same_self n))

no_take : (t : Take) (l : List Take) → l ≡ t ∷ [] → without same_take t l ≡ []
no_take t l is = ap (without same_take t) is ∙ ap (λ (b : Bool). if b then [] else t ∷ []) (take_self t)

no_room : (r : Room) (l : List Room) → l ≡ r ∷ [] → without same_room r l ≡ []
no_room r l is = ap (without same_room r) is ∙ ap (λ (b : Bool). if b then [] else r ∷ []) (room_self r)

no_place : (o : Option ℕ) (l : List ℕ) → l ≡ places_in o → without_limit (limit_code o) l ≡ []
no_place None l is = is
no_place (Some n) l is =
    let more : n + 1 ≡ suc n = omega arith in
    subst (λ (k : ℕ). without_limit k l ≡ []) (sym more)
    (ap (without same_limit n) is ∙ ap (λ (b : Bool). if b then [] else n ∷ []) (same_self n))

took_place : (o : Option ℕ) → limit_take (limit_code o) ++ [] ≡ places_in o
took_place None = refl
took_place (Some n) = let more : n + 1 ≡ suc n = omega arith in ap (λ (k : ℕ). limit_take k ++ []) more

append_nil : {A : Type 0} (l : List A) → l ++ [] ≡ l
append_nil [] = refl
append_nil {A = A} (x ∷ xs) = ap (λ (l : List A). x ∷ l) (append_nil xs)

place_back : (v : View) (o : Option ℕ) (found : ℕ) (ts : List Take) (rs : List Room) → HoldsJust ts (places_in o) rs v → GoesJust v ts [] rs (place_given v o found)
place_back v None found ts rs h = goes_to ts [] rs v v refl ([], append_nil v.trail) h.takes h.limits h.rooms h.burst h.place
place_back v (Some limit) found ts rs h =
    goes_to ts [] rs v (kinds.gave_limit v limit found) refl (one_more v.trail (limit_given limit found))
    h.takes (ap (without same_limit limit) h.limits ∙ ap (λ (b : Bool). if b then [] else limit ∷ []) (same_self limit)) h.rooms h.burst h.place

cores_back : (v : View) (sub cores found : ℕ) (ls : List ℕ) (rs : List Room) → HoldsJust (take_of sub cores ∷ []) ls rs v
    → GoesJust v [] ls rs (gave_burst v sub cores found)
cores_back v sub cores found ls rs h =
    goes_to [] ls rs v (gave_burst v sub cores found) refl (one_more v.trail (burst_given sub cores found))
    (no_take (take_of sub cores) v.takes h.takes) h.limits h.rooms h.burst h.place

room_back : (v : View) (host cores memory found : ℕ) (ts : List Take) (ls : List ℕ) → HoldsJust ts ls (room_of host cores memory ∷ []) v
    → GoesJust v ts ls [] (gave_host v host cores memory found)
room_back v host cores memory found ts ls h =
    goes_to ts ls [] v (gave_host v host cores memory found) refl (one_more v.trail (host_given host (kinds.host_amounts cores memory) found))
    h.takes h.limits (no_room (room_of host cores memory) v.rooms h.rooms) h.burst h.place

-- cores with their place
pub burst_back : (v w : View) (o : Option ℕ) (sub cores place found : ℕ) → HoldsJust (take_of sub cores ∷ []) (places_in o) [] v
    → w ≡ gave_burst (place_given v o place) sub cores found → GoesJust v [] [] [] w
burst_back v w o sub cores place found h is =
    let u = place_given v o place in
    let first = place_back v o place (take_of sub cores ∷ []) [] h in
    subst (GoesJust v [] [] []) (sym is) (goes_then [] [] [] v u (gave_burst u sub cores found) first.steps (cores_back u sub cores found [] [] first.holds))

-- .. and with room
pub hold_back : (v w : View) (hold : Hold) (room place found : ℕ)
    → HoldsJust (take_of hold.burst.sub hold.burst.cores ∷ []) (places_in hold.burst.limit) (room_of hold.host hold.burst.cores hold.memory ∷ []) v
    → w ≡ hold_given v hold room place found → GoesJust v [] [] [] w
hold_back v w hold room place found h is =
    let u = gave_host v hold.host hold.burst.cores hold.memory room in
    let first = room_back v hold.host hold.burst.cores hold.memory room (take_of hold.burst.sub hold.burst.cores ∷ []) (places_in hold.burst.limit) h in
    goes_then [] [] [] v u w first.steps (burst_back u w hold.burst.limit hold.burst.sub hold.burst.cores place found first.holds is)

-- ---- room

module _ (ts : List Take) (ls : List ℕ) (v w : View) (host cores memory : ℕ) (h : HoldsJust ts ls [] v) where
  pub room_taken : IsRoomTaken v host cores memory w → GoesJust v ts ls (room_of host cores memory ∷ []) w
  room_taken taken =
      subst (GoesJust v ts ls (room_of host cores memory ∷ [])) (sym taken.3)
      (goes_to ts ls (room_of host cores memory ∷ []) v _ refl (two_more v.trail _ _)
      h.takes h.limits (ap (λ (l : List Room). room_of host cores memory ∷ l) h.rooms) h.burst h.place)

  pub room_lost : (short : HostShort) → IsShort v host cores memory short w → GoesJust v ts ls [] w
  room_lost (host_short.NoRoom free_cores free_memory) lost =
      subst (GoesJust v ts ls []) (sym lost.4) (goes_to ts ls [] v _ refl (one_more v.trail _) h.takes h.limits h.rooms h.burst h.place)
  room_lost (host_short.Moved expected found) lost =
      subst (GoesJust v ts ls []) (sym lost.3) (goes_to ts ls [] v _ refl (two_more v.trail _ _) h.takes h.limits h.rooms h.burst h.place)

-- ---- the claim

pub claim_held : (v w : View) (c : rule.Claim) (o : Option ℕ) (item : Noted)
    → HoldsJust (take_of c.sub c.cores ∷ []) (places_in o) (room_of c.host c.cores c.memory ∷ []) v → c.limit ≡ limit_code o
    → w ≡ claimed v c item → GoesJust v [] [] [] w
claim_held v w c o item h limit is =
    subst (GoesJust v [] [] []) (sym is)
    (goes_to [] [] [] v (claimed v c item) refl (one_more v.trail item)
    (no_take (take_of c.sub c.cores) v.takes h.takes)
    (ap (λ (k : ℕ). without_limit k v.limits) limit ∙ no_place o v.limits h.limits)
    (no_room (room_of c.host c.cores c.memory) v.rooms h.rooms) h.burst h.place)

-- another word was found
pub noted_held : (ts : List Take) (ls : List ℕ) (rs : List Room) (v w : View) (item : Noted) → HoldsJust ts ls rs v → w ≡ noted v item → GoesJust v ts ls rs w
noted_held ts ls rs v w item h is =
    subst (GoesJust v ts ls rs) (sym is) (goes_to ts ls rs v (noted v item) refl (one_more v.trail item) h.takes h.limits h.rooms h.burst h.place)

-- a claim becomes a hold again
dropped_held : (v : View) (c : Claim) → HoldsJust [] [] [] v
    → GoesJust v (take_of c.hold.burst.sub c.hold.burst.cores ∷ []) (places_in c.hold.burst.limit)
    (room_of c.hold.host c.hold.burst.cores c.hold.memory ∷ []) (unclaimed v c)
dropped_held v c h =
    let k = claim_of c in
    goes_to (take_of k.sub k.cores ∷ []) (places_in c.hold.burst.limit) (room_of k.host k.cores k.memory ∷ []) v (unclaimed v c) refl (one_more v.trail _)
    (ap (λ (l : List Take). take_of k.sub k.cores ∷ l) h.takes)
    (ap (λ (l : List ℕ). limit_take k.limit ++ l) h.limits ∙ took_place c.hold.burst.limit)
    (ap (λ (l : List Room). room_of k.host k.cores k.memory ∷ l) h.rooms) h.burst h.place

-- it is let go, whatever word is found
pub let_go : (v w : View) (c : Claim) (dropped : Dropped) → HoldsJust [] [] [] v → IsDropped v c dropped w → GoesJust v [] [] [] w
let_go v w c dropping.Back h drops =
    let first = dropped_held v c h in
    goes_then [] [] [] v (unclaimed v c) w first.steps (hold_back (unclaimed v c) w c.hold drops.0 drops.1 drops.2 first.holds drops.3)
let_go v w c (dropping.Withdrawn found) h drops = noted_held [] [] [] v w _ h drops.1
