-- The recorder's own claim: what it asks, and what is left of it.
use Rattle.std.proofs.Common.{◌≡◌, ℕ, ◌+◌, ◌&&◌, ◌||◌, Bool, true, false, if◌then◌else◌, List, [], ◌∷◌, Result, Ok, Err, sym, refl, ap, ◌∙◌, subst, arith}
use Rattle.std.specs.Prelude.{Option, Some, None, IfOk, IsOk, MatchResult}
use Rattle.std.proofs.lemmas.Bool.{false≢true}
use Rattle.farm_types.specs.declared.entry.Entry.{Entry}
use Rattle.farm_types.specs.Booking.{may_record}
use Rattle.farm_types.specs.Farm.{Farm}
use Rattle.farm_types.specs.Step.{after}
use Rattle.booking_rule.specs.declared.hold.Claim as rule
use Rattle.booking_rule.specs.declared.hold.Room.{Room}
use Rattle.booking_rule.specs.declared.hold.Take.{Take}
use Rattle.booking_rule.specs.declared.view.View.{View}
use Rattle.booking_rule.specs.Kept.{farm_in}
use Rattle.booking_rule.specs.Link.{stand_at}
use Rattle.booking_rule.specs.Views.{holds, room_of, same_claim, take_of, without}
use Rattle.booking_rule.proofs.Moves.{same_self}
use Rattle.booking_core.specs.Machine.{IsFormedClaim}
use Rattle.booking_table.specs.declared.claiming.Dropped.{Dropped}
use Rattle.booking_table.specs.declared.claiming.Dropped.TheVariants as dropping
use Rattle.booking_table.specs.declared.holds.BurstHold.{BurstHold}
use Rattle.booking_table.specs.declared.holds.Claim.{Claim}
use Rattle.booking_table.specs.declared.holds.Hold.{Hold}
use Rattle.booking_table.specs.declared.seen.Seen.{Seen}
use Rattle.booking_table.specs.Alone.{SawStand, ShowsSeen}
use Rattle.booking_table.specs.Calls.{IsClaimed, IsDropped, IsLimitTaken, IsRoomTaken, IsSeenFor, SuitsAt, claim_by, unclaimed}
use Rattle.booking_table.specs.Holds.{HasBurst, HasClaim, HasHold, IsBurst, burst_hold, claim_of, hold_of, with_place}
use Rattle.entry_law.specs.Alone as books
use Rattle.recording_core.specs.Machine.{IsFormed}
use Rattle.recording_core.specs.Records.{booked, entry_item}
use Rattle.recording_table.specs.Booking.{CanBook}
use Rattle.recording_table.specs.Calls.{IsConfirmed, withdrawn}
use Rattle.recording_turns.specs.Resting.{IsAtRest, IsSettled, WentOn}
use Rattle.booking_recorder.specs.declared.book_result.BookResult.{BookResult}
use Rattle.booking_recorder.specs.Alone.{EntersOn, GoesAlone, HasBurstFor, HasClaimed, HasHoldFor, HoldsAlone, IsLostAt, IsWanted, OwnsClaim, WasOwned, burst_for, hold_for, places_in}
use Rattle.booking_recorder.specs.Claims.{RunsAhead}
use Rattle.booking_recorder.specs.Views.{Stays}
use Rattle.booking_recorder.proofs.Ahead.{settled_back, settled_booked, split_booked, split_pending, stays_ahead, stays_back}
use Rattle.booking_recorder.proofs.AloneViews.{claim_held, dropped_held, farm_went, goes_then, has_place, has_room, has_take, hold_back, place_back, place_taken, room_taken, suits_now}
use Rattle.booking_recorder.proofs.Rests.{farm_stays}
use Rattle.recording_turns.proofs.CarryingViews.{went_then}

-- ---- what is held for a frame that was seen

module _ (f : Farm) (sub host : ℕ) (seen : Seen) (want : IsWanted f seen.slot sub host seen) where
  pub is_burst : IsBurst (burst_for sub seen)
  is_burst = (want.of_sub, want.cores, want.limit)

  -- cores alone, cores with their place, and both with room
  pub has_cores : (burst : BurstHold) (v : View) → burst ≡ burst_hold sub seen.cores → HoldsAlone (take_of sub seen.cores ∷ []) [] [] [] v → HasBurst v burst
  has_cores burst v is h =
      subst (HasBurst v) (sym is) ((want.of_sub, want.cores, tt), has_take (take_of sub seen.cores) v.takes h.takes, refl)

  pub has_burst : (burst : BurstHold) (v : View) → burst ≡ burst_for sub seen
      → HoldsAlone (take_of sub seen.cores ∷ []) (places_in seen.limit) [] [] v → HasBurst v burst
  has_burst burst v is h =
      subst (HasBurst v) (sym is) (is_burst, has_take (take_of sub seen.cores) v.takes h.takes, has_place seen.limit v.limits h.limits)

  -- the cores have their place, as there is no limit, or as it was taken
  pub none_placed : (burst : BurstHold) (v : View) → seen.limit ≡ None → burst ≡ burst_hold sub seen.cores
      → HoldsAlone (take_of sub seen.cores ∷ []) [] [] [] v → HasBurstFor sub v seen burst v
  none_placed burst v none is h = (
    is ∙ (λ i. record { sub = sub; cores = seen.cores; limit = sym none i }),
    subst (λ (o : Option ℕ). GoesAlone v (take_of sub seen.cores ∷ []) (places_in o) [] [] v) (sym none)
        (place_back v None 0 (take_of sub seen.cores ∷ []) [] [] h),
  )

  pub some_placed : (burst now : BurstHold) (limit : ℕ) (v w : View) → seen.limit ≡ Some limit → burst ≡ burst_hold sub seen.cores
      → now ≡ with_place burst limit → HoldsAlone (take_of sub seen.cores ∷ []) [] [] [] v → IsLimitTaken v limit w → HasBurstFor sub v seen now w
  some_placed burst now limit v w named is placed h taken = (
    placed ∙ ap (λ (b : BurstHold). with_place b limit) is ∙ (λ i. record { sub = sub; cores = seen.cores; limit = sym named i }),
    subst (λ (o : Option ℕ). GoesAlone v (take_of sub seen.cores ∷ []) (places_in o) [] [] w) (sym named)
        (place_taken (take_of sub seen.cores ∷ []) v w limit h taken),
  )

  -- they have their room
  pub room_held : (burst : BurstHold) (hold : Hold) (v w : View) → burst ≡ burst_for sub seen → hold ≡ hold_of burst host seen.memory
      → HoldsAlone (take_of sub seen.cores ∷ []) (places_in seen.limit) [] [] v → IsRoomTaken v host burst.cores seen.memory w
      → HasHoldFor sub host v seen hold w
  room_held burst hold v w is of h taken = (
    of ∙ ap (λ (b : BurstHold). hold_of b host seen.memory) is,
    room_taken (take_of sub seen.cores ∷ []) (places_in seen.limit) v w host seen.cores seen.memory h
        (subst (λ (b : BurstHold). IsRoomTaken v host b.cores seen.memory w) is taken),
  )

  module _ (hold : Hold) (is : hold ≡ hold_for sub host seen) where
    pub has_hold : (v : View) → HoldsAlone (take_of sub seen.cores ∷ []) (places_in seen.limit) (room_of host seen.cores seen.memory ∷ []) [] v
        → HasHold v hold
    has_hold v h =
        subst (HasHold v) (sym is) (
          (is_burst, want.on_host, want.memory),
          (is_burst, has_take (take_of sub seen.cores) v.takes h.takes, has_place seen.limit v.limits h.limits),
          has_room (room_of host seen.cores seen.memory) v.rooms h.rooms,
        )

    pub seen_for_it : IsSeenFor seen hold
    seen_for_it = subst (IsSeenFor seen) (sym is) (want.within, want.waits, want.below, refl, refl, refl)

    pub suits_it : (v : View) → f ≡ farm_in v → SuitsAt v seen.slot seen.version hold.host hold.burst.sub
    suits_it v leads =
        subst (λ (h : Hold). SuitsAt v seen.slot seen.version h.host h.burst.sub) (sym is)
        (suits_now v f seen.slot seen.version host sub leads want.suited)

    -- it is claimed
    pub claimed_alone : (v w : View) (c : Claim) → f ≡ farm_in v
        → HoldsAlone (take_of sub seen.cores ∷ []) (places_in seen.limit) (room_of host seen.cores seen.memory ∷ []) [] v
        → c ≡ claim_by hold seen → IsClaimed v (claim_by hold seen) w → HasClaimed seen.slot host v c w
    claimed_alone v w c leads h of_hold won =
        let k : Claim = claim_by (hold_for sub host seen) seen in
        let goes = claim_held v w (claim_of k) seen.limit _ h refl (subst (λ (x : Hold). IsClaimed v (claim_by x seen) w) is won) in
        let below = want.below in
        let on = want.on_host in
        let few = want.few in
        let same : (stand_at (farm_in w) seen.slot).version + 1 ≡ seen.version + 1 =
        ap (λ (g : Farm). (stand_at g seen.slot).version + 1) (farm_went v w goes.went ∙ sym leads) ∙ ap (λ (n : ℕ). n + 1) (sym want.saw.version) in
        subst (λ (x : Claim). HasClaimed seen.slot host v x w) (sym (of_hold ∙ ap (λ (x : Hold). claim_by x seen) is)) (record {
          at = refl;
          on = refl;
          went = goes.went;
          owns = record {
            alone = goes.alone;
            formed = (want.within, omega arith, (omega arith, omega (arith, below), omega (arith, on), omega (arith, few)));
            held = (is_burst, want.on_host, want.memory);
            next = same;
          };
        })

-- the farm says what was seen
pub shows_seen : (f : Farm) (v : View) (sub host : ℕ) (seen : Seen) → IsWanted f seen.slot sub host seen → f ≡ farm_in v → ShowsSeen v seen
shows_seen f v sub host seen want leads = subst (λ (g : Farm). SawStand (stand_at g seen.slot) seen) leads want.saw

-- ---- the claim runs ahead

pub formed_claim : (c : rule.Claim) → IsFormedClaim c → IsFormed c
formed_claim c formed = (formed.0, formed.2)

pub went_ahead : (v w : View) (c : rule.Claim) → RunsAhead v c w → WentOn v w
went_ahead v w c ahead =
    subst (WentOn v) (sym ahead.like) (record { like = refl; split = split_pending (Some c.slot) c.host v.desk; trail = (_ ∷ [], refl) })

-- as its word is found
pub ran_own : (v w : View) (c : rule.Claim) (r : Result (Unit {0}) ℕ) → IsConfirmed v c r w → IfOk r (λ done. CanBook v c) → IsOk r → RunsAhead v c w
ran_own v w c (Ok done) is can ok = record { like = is; can = can }
ran_own v w c (Err found) is can ok = absurd (false≢true ok)

pub can_own : (v : View) (c : rule.Claim) (r : Result (Unit {0}) ℕ) → IfOk r (λ done. CanBook v c) → IsOk r → CanBook v c
can_own v c (Ok done) can ok = can
can_own v c (Err found) can ok = absurd (false≢true ok)

-- what the seat that holds the claim alone holds still, as only its desk and its trail are others
holds_still : (ts : List Take) (ls : List ℕ) (rs : List Room) (cs : List rule.Claim) (v w : View) → HoldsAlone ts ls rs cs v → Stays v w → IsSettled w
    → HoldsAlone ts ls rs cs w
holds_still ts ls rs cs v w h s settled = record {
  settled = settled;
  split = s.split ∙ h.split;
  number = ap (λ (x : View). x.number) s.like ∙ h.number;
  takes = ap (λ (x : View). x.takes) s.like ∙ h.takes;
  limits = ap (λ (x : View). x.limits) s.like ∙ h.limits;
  rooms = ap (λ (x : View). x.rooms) s.like ∙ h.rooms;
  claims = ap (λ (x : View). x.claims) s.like ∙ h.claims;
  burst = ap (λ (x : View). x.ungranted) s.like ∙ h.burst;
  place = ap (λ (x : View). x.ungranted_limit) s.like ∙ h.place;
}

claim_self : (c : rule.Claim) → same_claim c c ≡ true
claim_self c =
    λ i. same_self c.slot i && (same_self c.version i && (same_self c.host i && (same_self c.sub i && (same_self c.cores i && (same_self c.limit i && same_self c.memory i)))))

no_claim : (c : rule.Claim) (l : List rule.Claim) → l ≡ c ∷ [] → without same_claim c l ≡ []
no_claim c l is = ap (without same_claim c) is ∙ ap (λ (b : Bool). if b then [] else c ∷ []) (claim_self c)

-- ---- the booking is recorded

module _ (u w : View) (c : Claim) (e : Entry) (n : ℕ) (was : WasOwned c u) (is : w ≡ booked u (claim_of c) e n) where
  pub entered_own : EntersOn u e w
  entered_own = subst (EntersOn u e) (sym is) (record {
    like = refl;
    split = split_booked c.slot u.journal u.desk;
    trail = (entry_item n ∷ [], refl);
  })

  pub rests_own : books.BooksAlone (farm_in u) (after (farm_in u) e) c.slot c.hold.host → IsAtRest w
  rests_own alone =
      let v = was.0 in
      let h = was.1.alone in
      let ahead = was.2 in
      let s = stays_ahead v u (claim_of c) ahead in
      record {
        settled = settled_booked v u w (claim_of c) e n h.settled ahead is alone;
        free = record {
          takes = ap (λ (x : View). x.takes) is ∙ ap (λ (x : View). x.takes) s.like ∙ h.takes;
          limits = ap (λ (x : View). x.limits) is ∙ ap (λ (x : View). x.limits) s.like ∙ h.limits;
          rooms = ap (λ (x : View). x.rooms) is ∙ ap (λ (x : View). x.rooms) s.like ∙ h.rooms;
          claims = ap (λ (x : View). x.claims) is ∙ no_claim (claim_of c) u.claims (ap (λ (x : View). x.claims) s.like ∙ h.claims);
          burst = ap (λ (x : View). x.ungranted) is ∙ ap (λ (x : View). x.ungranted) s.like ∙ h.burst;
          place = ap (λ (x : View). x.ungranted_limit) is ∙ ap (λ (x : View). x.ungranted_limit) s.like ∙ h.place;
        };
      }

-- ---- the claim comes back, and is let go

pub owns_back : (u w : View) (c : Claim) → WasOwned c u → w ≡ withdrawn u (claim_of c) → OwnsClaim c w
owns_back u w c was is =
    let v = was.0 in
    let o = was.1 in
    let ahead = was.2 in
    let s : Stays v w = stays_back v u w (claim_of c) ahead is in
    record {
      alone = holds_still [] [] [] (claim_of c ∷ []) v w o.alone s (settled_back v u w (claim_of c) o.alone.settled ahead is);
      formed = o.formed;
      held = o.held;
      next = ap (λ (g : Farm). (stand_at g c.slot).version + 1) (farm_stays v w s) ∙ o.next;
    }

pub went_back : (u w : View) (c : Claim) → w ≡ withdrawn u (claim_of c) → WentOn u w
went_back u w c is =
    subst (WentOn u) (sym is) (record { like = refl; split = split_pending None c.hold.host u.desk; trail = (_ ∷ [], refl) })

pub has_claim : (w : View) (c : Claim) → OwnsClaim c w → HasClaim w c
has_claim w c o = (
  o.formed,
  o.held,
  ap (holds same_claim (claim_of c)) o.alone.claims ∙ ap (λ (b : Bool). b || false) (claim_self (claim_of c)),
)

pub let_go : (u v w : View) (c : Claim) (dropped : Dropped) → WentOn u v → OwnsClaim c v → dropped ≡ dropping.Back → IsDropped v c dropped w
    → GoesAlone u [] [] [] [] w
let_go u v w c dropped went o back is =
    let d = subst (λ (x : Dropped). IsDropped v c x w) back is in
    let h = o.alone in
    let k = claim_of c in
    let x = unclaimed v c in
    let goes : GoesAlone v (take_of k.sub k.cores ∷ []) (places_in c.hold.burst.limit) (room_of k.host k.cores k.memory ∷ []) [] x = dropped_held v c o in
    goes_then [] [] [] [] u v w went (goes_then [] [] [] [] v x w goes.went (hold_back x w c.hold d.0 d.1 d.2 goes.alone d.3))

-- ---- one step after the other

pub leads_then : (f : Farm) (v w : View) → f ≡ farm_in v → WentOn v w → f ≡ farm_in w
leads_then f v w leads went = leads ∙ sym (farm_went v w went)

pub want_seen : (f : Farm) (slot sub host : ℕ) (seen : Seen) → IsWanted f slot sub host seen → IsWanted f seen.slot sub host seen
want_seen f slot sub host seen want = record {
  at = refl;
  saw = want.saw;
  waits = want.waits;
  within = want.within;
  below = want.below;
  few = want.few;
  cores = want.cores;
  memory = want.memory;
  limit = want.limit;
  suited = want.suited;
  of_sub = want.of_sub;
  on_host = want.on_host;
}

pub lost_then : (f : Farm) (slot sub host : ℕ) (seen : Seen) (u v w : View) (lost : BookResult) → IsWanted f slot sub host seen → WentOn u v
    → IsLostAt f seen.slot host v lost w → IsLostAt f slot host u lost w
lost_then f slot sub host seen u v w lost want went is = record {
  lost = is.lost;
  may = subst (λ (n : ℕ). may_record f n host ≡ false) want.at is.may;
  goes = goes_then [] [] [] [] u v w went is.goes;
}

claimed_then : (f : Farm) (slot sub host : ℕ) (seen : Seen) (u v w : View) (c : Claim) → IsWanted f slot sub host seen → WentOn u v
    → HasClaimed seen.slot host v c w → HasClaimed slot host u c w
claimed_then f slot sub host seen u v w c want went is = record {
  at = is.at ∙ want.at;
  on = is.on;
  went = went_then u v w went is.went;
  owns = is.owns;
}

pub ended : (f : Farm) (slot sub host : ℕ) (seen : Seen) (u v w : View) (r : Result Claim BookResult) → IsWanted f slot sub host seen → WentOn u v
    → MatchResult r (λ c. HasClaimed seen.slot host v c w) (λ lost. IsLostAt f seen.slot host v lost w)
    → MatchResult r (λ c. HasClaimed slot host u c w) (λ lost. IsLostAt f slot host u lost w)
ended f slot sub host seen u v w (Ok c) want went is = claimed_then f slot sub host seen u v w c want went is
ended f slot sub host seen u v w (Err lost) want went is = lost_then f slot sub host seen u v w lost want went is
