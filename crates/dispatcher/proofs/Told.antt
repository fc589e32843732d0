-- What a keeper is told over a round, candidate by candidate.
use Rattle.std.proofs.Common.{◌≡◌, ℕ, ◌+◌, ◌-◌, ◌<◌, ◌≤◌, ◌&&◌, Bool, true, false, List, [], ◌∷◌, ◌++◌, cond, length, get_or, drop, take, append_assoc, append-nil, length-append, refl, sym, ap, subst, ◌∙◌, arith}
use Rattle.std.specs.Prelude.{nat_lt}
use Rattle.std.proofs.Math.Seq.{take-append_seam}
use Rattle.std.proofs.lemmas.List.{drop_all}
use Rattle.farm_types.specs.declared.dispatch.Candidate.{Candidate}
use Rattle.farm_types.specs.declared.entry.Entry.{Entry}
use Rattle.farm_types.specs.declared.limits.TheConstants.{BOOKINGS_EACH}
use Rattle.farm_types.specs.Booking.{may_book}
use Rattle.farm_types.specs.Dispatch.{book_entry, round_from}
use Rattle.farm_types.specs.Farm.{Farm}
use Rattle.farm_types.specs.Run.{run_of}
use Rattle.farm_types.specs.Step.{after}
use Rattle.farm_keeper.specs.Keeping.{Committing}
use Rattle.booking_recorder.specs.recorder.specs.Telling.{EndsTelling, TakesEach, Tells}
use Rattle.booking_recorder.specs.recorder.proofs.Told.{ends_still, taken_then, tells_still}
use Rattle.dispatcher.specs.Rounds.{IsOffered}
use Rattle.dispatcher.proofs.UnderWay.{IsUnderWay, at_hand, first_ones}

-- ---- a candidate

module _ (f : Farm) (left : ℕ) (c : Candidate) (moment : ℕ) where
  -- the round from here by whether the candidate is booked
  abbrev first_by : List Candidate → Bool → List Entry
  first_by later b = cond b (book_entry c moment ∷ round_from (left - 1) (after f (book_entry c moment)) moment later) (round_from left f moment later)

-- the bookings so far are the first ones of the round
pub so_far : (old : Farm) (moment : ℕ) (all : List Candidate) (left : ℕ) (f : Farm) (c : Candidate) (rest : List Candidate) (so : IsUnderWay old moment all left f rest)
    → take (BOOKINGS_EACH - left) (round_from BOOKINGS_EACH old moment all) ≡ so.booked
so_far old moment all left f c rest so =
    let many : BOOKINGS_EACH - left ≡ length so.booked = omega (arith, so.counted) in
    ap (λ (k : ℕ). take k (round_from BOOKINGS_EACH old moment all)) many ∙ sym (first_ones old moment all left f c rest so)

-- the bookings of a candidate that was offered are its part of the round
pub own : (left : ℕ) (f : Farm) (moment : ℕ) (c : Candidate) (left_then : ℕ) (new : Farm) (offered : IsOffered left f moment c left_then new)
    → offered.booked ≡ round_from left f moment (c ∷ [])
own left f moment c left_then new offered = sym (append-nil offered.booked) ∙ offered.goes_on []

-- of a list that begins with two, these two
pub front_more : (done more rest all : List Entry) (k : ℕ) → done ++ (more ++ rest) ≡ all → k ≡ length (done ++ more) → take k all ≡ done ++ more
front_more done more rest all k is many =
    ap (λ (n : ℕ). take n all) many
    ∙ (ap (λ (es : List Entry). take (length (done ++ more)) es) (sym (append_assoc done more rest ∙ is)) ∙ take-append_seam (done ++ more) rest)

module _ {K : Type 0} (commits : Committing K) where
  -- no candidate was offered
  pub none_walked : (f : Farm) (all : List Entry) (booked : ℕ) (failed : Bool) (k : K) → booked ≡ 0 → failed ≡ false → Tells commits f all (take booked all) failed k k
  none_walked f all booked failed k none not =
      subst (λ (n : ℕ). Tells commits f all (take n all) failed k k) (sym none) (subst (λ (b : Bool). Tells commits f all [] b k k) (sym not) (tells_still commits f all k))

  module _ (f : Farm) (left : ℕ) (c : Candidate) (moment : ℕ) where
    ends_by : (later : List Candidate) (failed : Bool) (before now : K) (b : Bool) → EndsTelling commits f (first_by f left c moment [] b) failed before now
        → EndsTelling commits f (first_by f left c moment later b) failed before now
    ends_by later true before now true told = told
    ends_by later false before now true told = told
    ends_by later failed before now false told =
        subst (λ (b : Bool). EndsTelling commits f (round_from left f moment later) b before now) (sym told.0) (ends_still commits f (round_from left f moment later) before now told.1)

    -- a fault at it ends the round from here
    ends_here : (later : List Candidate) (failed : Bool) (before now : K) → EndsTelling commits f (round_from left f moment (c ∷ [])) failed before now
        → EndsTelling commits f (round_from left f moment (c ∷ later)) failed before now
    ends_here later failed before now told = ends_by later failed before now (nat_lt 0 left && may_book f c.slot c.host) told

  -- ---- a round

  module _ (old : Farm) (moment : ℕ) (all : List Candidate) (left : ℕ) (f : Farm) (c : Candidate) (i : ℕ) (within : i < length all) (is : c ≡ get_or all i c)
      (so : IsUnderWay old moment all left f (drop i all)) where
    abbrev round : List Entry
    round = round_from BOOKINGS_EACH old moment all

    -- the candidate at hand was offered
    pub taken_next : (new : Farm) (left_then : ℕ) (offered : IsOffered left f moment c left_then new) (before mid now : K)
        → TakesEach commits old (take (BOOKINGS_EACH - left) round) before mid → TakesEach commits f (round_from left f moment (c ∷ [])) mid now
        → TakesEach commits old (take (BOOKINGS_EACH - left_then) round) before now
    taken_next new left_then offered before mid now first second =
        let there = at_hand old moment all left f c i within is so in
        let rest = round_from left_then new moment (drop (i + 1) all) in
        let whole : there.booked ++ (offered.booked ++ rest) ≡ round = ap (λ (es : List Entry). there.booked ++ es) (offered.goes_on (drop (i + 1) all)) ∙ there.goes_on in
        let many : BOOKINGS_EACH - left_then ≡ length (there.booked ++ offered.booked) =
        omega (arith, there.counted, offered.counted, length-append there.booked offered.booked) in
        let done : TakesEach commits old there.booked before mid =
        subst (λ (es : List Entry). TakesEach commits old es before mid) (so_far old moment all left f c (c ∷ drop (i + 1) all) there) first in
        let more : TakesEach commits (run_of old there.booked) offered.booked mid now =
        subst (λ (g : Farm). TakesEach commits g offered.booked mid now) there.made
        (subst (λ (es : List Entry). TakesEach commits f es mid now) (sym (own left f moment c left_then new offered)) second) in
        subst (λ (es : List Entry). TakesEach commits old es before now) (sym (front_more there.booked offered.booked rest round (BOOKINGS_EACH - left_then) whole many))
        (taken_then commits old there.booked offered.booked before mid now done more)

    -- a fault ended it there
    pub told_to : (failed : Bool) (booked : ℕ) (before mid now : K) → booked ≡ BOOKINGS_EACH - left → TakesEach commits old (take (BOOKINGS_EACH - left) round) before mid
        → EndsTelling commits f (round_from left f moment (c ∷ [])) failed mid now → Tells commits old round (take booked round) failed before now
    told_to failed booked before mid now many first ends =
        let there = at_hand old moment all left f c i within is so in
        let done : take booked round ≡ there.booked =
        ap (λ (k : ℕ). take k round) many ∙ so_far old moment all left f c (c ∷ drop (i + 1) all) there in
        record {
          rest = round_from left f moment (c ∷ drop (i + 1) all);
          mid = mid;
          all_are = sym there.goes_on ∙ ap (λ (es : List Entry). es ++ round_from left f moment (c ∷ drop (i + 1) all)) (sym done);
          taken = subst (λ (k : ℕ). TakesEach commits old (take k round) before mid) (sym many) first;
          ends = subst (λ (g : Farm). EndsTelling commits g (round_from left f moment (c ∷ drop (i + 1) all)) failed mid now) (there.made ∙ ap (run_of old) (sym done))
              (ends_here f left c moment (drop (i + 1) all) failed mid now ends);
        }

  -- all candidates were offered
  pub told_whole : (old : Farm) (moment : ℕ) (all : List Candidate) (left : ℕ) (f : Farm) (i : ℕ) → length all ≤ i → IsUnderWay old moment all left f (drop i all)
      → (booked : ℕ) (failed : Bool) (before now : K) → booked ≡ BOOKINGS_EACH - left → failed ≡ false → TakesEach commits old (take (BOOKINGS_EACH - left) (round_from BOOKINGS_EACH old moment all)) before now
      → Tells commits old (round_from BOOKINGS_EACH old moment all) (take booked (round_from BOOKINGS_EACH old moment all)) failed before now
  told_whole old moment all left f i past under booked failed before now many none first =
      let so : IsUnderWay old moment all left f [] = subst (IsUnderWay old moment all left f) (drop_all i all past) under in
      let round = round_from BOOKINGS_EACH old moment all in
      let length_is : booked ≡ length so.booked = many ∙ omega (arith, so.counted) in
      let is : so.booked ≡ round = sym (append-nil so.booked) ∙ so.goes_on in
      let done : take booked round ≡ round =
      ap (λ (k : ℕ). take k round) length_is ∙ (ap (λ (es : List Entry). take (length so.booked) es) (sym so.goes_on) ∙ (take-append_seam so.booked [] ∙ is)) in
      record {
        rest = [];
        mid = now;
        all_are = sym done ∙ sym (append-nil (take booked round));
        taken = subst (λ (k : ℕ). TakesEach commits old (take k round) before now) (sym many) first;
        ends = (none, refl);
      }
