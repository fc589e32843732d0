-- The candidate that is wanted, and what is held for it, as the calls ask for them.
use Rattle.std.proofs.Common.{◌≡◌, ℕ, zero, suc, ◌+◌, ◌≤◌, ◌&&◌, ◌||◌, Bool, true, List, [], ◌∷◌, ◌++◌, length, take, sym, refl, ap, ◌∙◌, subst, arith}
use mathlib.Core.List.{IsPrefix}
use Rattle.farm_types.specs.declared.dispatch.Candidate.{Candidate}
use Rattle.farm_types.specs.declared.entry.Entry.{Entry}
use Rattle.farm_types.specs.Booking.{suits}
use Rattle.farm_types.specs.Run.{IsLegal, run_of}
use Rattle.booking_rule.specs.declared.hold.Claim as rule
use Rattle.booking_rule.specs.declared.noted.Noted.{Noted}
use Rattle.booking_rule.specs.declared.opening.Opening.{Opening}
use Rattle.booking_rule.specs.declared.view.View.{View}
use Rattle.booking_rule.specs.Link.{farm_of}
use Rattle.booking_rule.specs.Looks.{HasLook}
use Rattle.booking_rule.specs.Views.{holds, room_of, same_claim, take_of}
use Rattle.booking_rule.proofs.Moves.{same_self}
use Rattle.booking_table.specs.declared.holds.BurstHold.{BurstHold}
use Rattle.booking_table.specs.declared.holds.Claim.{Claim}
use Rattle.booking_table.specs.declared.holds.Hold.{Hold}
use Rattle.booking_table.specs.declared.seen.Seen.{Seen}
use Rattle.booking_table.specs.Calls.{IsClaimed, IsSeenFor, SuitsAt, claim_by, look_by}
use Rattle.booking_table.specs.Holds.{HasBurst, HasClaim, HasHold, IsBurst, burst_hold, claim_of}
use Rattle.booking_table.proofs.Looked.{looks_stay}
use Rattle.shared_bot.specs.booking_recorder.specs.Alone.{burst_for, places_in}
use Rattle.shared_bot.specs.Passes.{IsFree}
use Rattle.shared_rounds.specs.Holding.{AreDue, GoesJust, HoldsJust, IsDue, IsWanted, StepsOn}
use Rattle.shared_rounds.specs.Rounds.{Grows}
use Rattle.shared_rounds.specs.Steps.{claim_for, held_for}
use Rattle.shared_rounds.proofs.Held.{has_place, has_room, has_take}

-- ---- a candidate stays due

take_front : (n : ℕ) (xs ys : List Entry) → n ≤ length xs → take n (xs ++ ys) ≡ take n xs
take_front zero xs ys few = refl
take_front (suc n) [] ys few = absurd (omega (arith, few))
take_front (suc n) (x ∷ xs) ys few = ap (λ (l : List Entry). x ∷ l) (take_front n xs ys (omega (arith, few)))

pub longer : (xs ys : List Entry) → length xs ≤ length (xs ++ ys)
longer [] ys = omega arith
longer (x ∷ xs) ys = let more = longer xs ys in omega (arith, more)

suits_grown : (v w : View) (slot version host sub : ℕ) → w.opening ≡ v.opening → IsPrefix v.journal w.journal → SuitsAt v slot version host sub
    → SuitsAt w slot version host sub
suits_grown v w slot version host sub opening grew at =
    let few = at.1 in
    let more : length v.journal ≤ length w.journal = subst (λ (l : List Entry). length v.journal ≤ length l) grew.1 (longer v.journal grew.0) in
    let same : take at.0 w.journal ≡ take at.0 v.journal = ap (take at.0) (sym grew.1) ∙ take_front at.0 v.journal grew.0 few in (
      at.0,
      omega (arith, few, more),
      subst (λ (x : Opening × List Entry). suits (run_of (farm_of x.0) x.1) slot version host sub ≡ true) (λ i. (sym opening i, sym same i)) at.2,
    )

pub due_grown : (v w : View) (c : Candidate) → w.opening ≡ v.opening → IsPrefix v.journal w.journal → IsDue v c → IsDue w c
due_grown v w c opening grew due = record {
  suits = suits_grown v w c.slot c.version c.host c.sub opening grew due.suits;
  below = due.below;
  slot = due.slot;
  sub = due.sub;
  host = due.host;
}

pub all_due_grown : (v w : View) (cs : List Candidate) → w.opening ≡ v.opening → IsPrefix v.journal w.journal → AreDue v cs → AreDue w cs
all_due_grown v w [] opening grew due = tt
all_due_grown v w (c ∷ cs) opening grew due = (due_grown v w c opening grew due.0, all_due_grown v w cs opening grew due.1)

append_nil : {A : Type 0} (l : List A) → l ++ [] ≡ l
append_nil [] = refl
append_nil {A = A} (x ∷ xs) = ap (λ (l : List A). x ∷ l) (append_nil xs)

pub all_of : {A : Type 0} (xs ys : List A) → ys ≡ xs → IsPrefix xs ys
all_of xs ys is = ([], append_nil xs ∙ sym is)

-- ---- steps leave it wanted

pub wanted_on : (v w : View) (c : Candidate) (seen : Seen) → StepsOn v w → IsWanted v c seen → IsWanted w c seen
wanted_on v w c seen steps want = record {
  due = due_grown v w c (ap (λ (x : View). x.opening) steps.like) (all_of v.journal w.journal (ap (λ (x : View). x.journal) steps.like)) want.due;
  at = want.at;
  phase = want.phase;
  version = want.version;
  look = subst (λ (l : List Noted). HasLook l (look_by seen)) steps.trail.1 (looks_stay v.trail steps.trail.0 seen want.look);
  cores = want.cores;
  memory = want.memory;
  limit = want.limit;
  few = want.few;
}

pub grows_on : (v w : View) → StepsOn v w → Grows v w
grows_on v w steps = record {
  number = ap (λ (x : View). x.number) steps.like;
  opening = ap (λ (x : View). x.opening) steps.like;
  journal = all_of v.journal w.journal (ap (λ (x : View). x.journal) steps.like);
  trail = steps.trail;
  desk_trail = all_of v.desk_trail w.desk_trail (ap (λ (x : View). x.desk_trail) steps.like);
}

pub free_on : (opening : Opening) (v w : View) → IsFree opening v → GoesJust v [] [] [] w → IsFree opening w
free_on opening v w free goes = record {
  starts = ap (λ (x : View). x.opening) goes.steps.like ∙ free.starts;
  begins = free.begins;
  legal = subst (λ (l : List Entry). IsLegal (farm_of opening) l) (sym (ap (λ (x : View). x.journal) goes.steps.like)) free.legal;
  takes = goes.holds.takes;
  limits = goes.holds.limits;
  rooms = goes.holds.rooms;
  burst = goes.holds.burst;
  place = goes.holds.place;
}

pub holds_none : (opening : Opening) (v : View) → IsFree opening v → HoldsJust [] [] [] v
holds_none opening v free = record { takes = free.takes; limits = free.limits; rooms = free.rooms; burst = free.burst; place = free.place }

-- ---- what is held for a frame that was seen

module _ (v : View) (c : Candidate) (seen : Seen) (want : IsWanted v c seen) where
  pub is_burst : IsBurst (burst_for c.sub seen)
  is_burst = (want.due.sub, want.cores, want.limit)

  pub has_cores : (burst : BurstHold) (w : View) → burst ≡ burst_hold c.sub seen.cores → HoldsJust (take_of c.sub seen.cores ∷ []) [] [] w → HasBurst w burst
  has_cores burst w is h = subst (HasBurst w) (sym is) ((want.due.sub, want.cores, tt), has_take (take_of c.sub seen.cores) w.takes h.takes, refl)

  pub has_burst : (burst : BurstHold) (w : View) → burst ≡ burst_for c.sub seen → HoldsJust (take_of c.sub seen.cores ∷ []) (places_in seen.limit) [] w
      → HasBurst w burst
  has_burst burst w is h =
      subst (HasBurst w) (sym is) (is_burst, has_take (take_of c.sub seen.cores) w.takes h.takes, has_place seen.limit w.limits h.limits)

  module _ (hold : Hold) (is : hold ≡ held_for c seen) where
    pub has_hold : (w : View) → HoldsJust (take_of c.sub seen.cores ∷ []) (places_in seen.limit) (room_of c.host seen.cores seen.memory ∷ []) w → HasHold w hold
    has_hold w h =
        subst (HasHold w) (sym is) (
          (is_burst, want.due.host, want.memory),
          (is_burst, has_take (take_of c.sub seen.cores) w.takes h.takes, has_place seen.limit w.limits h.limits),
          has_room (room_of c.host seen.cores seen.memory) w.rooms h.rooms,
        )

    pub seen_for_it : IsSeenFor seen hold
    seen_for_it =
        let slot = want.due.slot in
        let below = want.due.below in
        let at = want.at in
        let same = want.version in
        subst (IsSeenFor seen) (sym is) (omega (arith, slot, at), want.phase, omega (arith, below, same), refl, refl, refl)

    pub suits_it : SuitsAt v seen.slot seen.version hold.host hold.burst.sub
    suits_it =
        subst (λ (h : Hold). SuitsAt v seen.slot seen.version h.host h.burst.sub) (sym is)
        (subst (λ (x : ℕ × ℕ). SuitsAt v x.0 x.1 c.host c.sub) (λ i. (sym want.at i, sym want.version i)) want.due.suits)

    pub claim_is : claim_by hold seen ≡ claim_for c seen
    claim_is = λ i. record { slot = want.at i; version = seen.version + 1; hold = is i }

-- the claim is among those of the pass
claim_self : (x : rule.Claim) → same_claim x x ≡ true
claim_self x =
    λ i. same_self x.slot i && (same_self x.version i && (same_self x.host i && (same_self x.sub i && (same_self x.cores i && (same_self x.limit i && same_self x.memory i)))))

pub has_claim : (v w : View) (c : Candidate) (seen : Seen) (claim : Claim) → IsWanted v c seen → claim ≡ claim_for c seen → IsClaimed v (claim_for c seen) w → HasClaim w claim
has_claim v w c seen claim want is won =
    let k = claim_of (claim_for c seen) in
    let slot = want.due.slot in
    let host = want.due.host in
    let below = want.due.below in
    let same = want.version in
    let few = want.few in
    let there : holds same_claim k w.claims ≡ true =
    ap (λ (x : View). holds same_claim k x.claims) won ∙ ap (λ (b : Bool). b || holds same_claim k v.claims) (claim_self k) in
    subst (HasClaim w) (sym is) (
      (slot, omega arith, (omega arith, omega (arith, below, same), omega (arith, host), omega (arith, few))),
      ((want.due.sub, want.cores, want.limit), host, want.memory),
      there,
    )
