-- A round, candidate by candidate.
use Rattle.std.proofs.Common.{◌≡◌, ℕ, suc, ◌+◌, ◌-◌, ◌<◌, true, List, [], ◌∷◌, ◌++◌, length, length-append, get_or, drop, take, append_assoc, append-nil, drop-cons, refl, sym, ap, subst, ◌∙◌, arith}
use Rattle.std.proofs.Math.Seq.{take-append_seam}
use Rattle.farm_types.specs.declared.dispatch.Candidate.{Candidate}
use Rattle.farm_types.specs.declared.dispatch.Cut.{Cut}
use Rattle.farm_types.specs.declared.dispatch.Cut.TheVariants as cut
use Rattle.farm_types.specs.declared.entry.Entry.{Entry}
use Rattle.farm_types.specs.declared.limits.TheConstants.{BOOKINGS_EACH}
use Rattle.farm_types.specs.Booking.{may_book}
use Rattle.farm_types.specs.Dispatch.{book_entry, round_from}
use Rattle.farm_types.specs.Farm.{Farm}
use Rattle.farm_types.specs.Run.{run_of}
use Rattle.farm_types.specs.Step.{after}
use Rattle.booking_recorder.specs.recorder.specs.Faults.{is_of_store}
use Rattle.booking_recorder.specs.recorder.specs.Recording.{ChangesNone}
use Rattle.booking_recorder.specs.recorder.specs.declared.refusal.RecordFault.{RecordFault}
use Rattle.booking_recorder.specs.recorder.specs.declared.refusal.RecordFault.TheVariants as fault
use Rattle.dispatcher.specs.declared.walked.Walked.{Walked}
use Rattle.dispatcher.specs.Rounds.{EndsBy, FailsToOffer, HasWalked, IsOffered, IsUnstoredAt, cut_of, is_store_cut}
use Rattle.dispatcher.proofs.Booked.{begins}

-- of a round of all these candidates these bookings are made so far, and so many bookings and these candidates are left
pub record IsUnderWay (old : Farm) (moment : ℕ) (all : List Candidate) (left : ℕ) (now : Farm) (rest : List Candidate) : Type 0 where
  pub booked : List Entry
  pub counted : left + length booked ≡ BOOKINGS_EACH
  pub made : now ≡ run_of old booked
  pub goes_on : booked ++ round_from left now moment rest ≡ round_from BOOKINGS_EACH old moment all

-- an item and those behind it
pub next_item : {X : Type 0} (xs : List X) (i : ℕ) (x : X) → i < length xs → x ≡ get_or xs i x → drop i xs ≡ x ∷ drop (i + 1) xs
next_item {X = X} xs i x within is =
    let next : suc i ≡ i + 1 = omega arith in
    drop-cons xs i x within ∙ (ap (λ (k : ℕ). get_or xs i x ∷ drop k xs) next ∙ ap (λ (y : X). y ∷ drop (i + 1) xs) (sym is))

-- entries, and then others
runs_on : (f : Farm) (done more : List Entry) → run_of f (done ++ more) ≡ run_of (run_of f done) more
runs_on f [] more = refl
runs_on f (e ∷ done) more = runs_on (after f e) done more

-- where no entry changes a row, none behind the first ones does
none_behind : (f : Farm) (done more : List Entry) → ChangesNone f (done ++ more) → ChangesNone (run_of f done) more
none_behind f [] more none = none
none_behind f (e ∷ done) more none = none_behind (after f e) done more none.1

-- the store ends a round where the fault is its own
pub store_cut : (why : RecordFault) (walked : Walked) → walked.cut ≡ cut_of why → is_of_store why ≡ is_store_cut walked.cut
store_cut fault.Store walked is = sym (ap is_store_cut is)
store_cut fault.NoMemory walked is = sym (ap is_store_cut is)

-- at a fault the farm is as before
same_at : (left : ℕ) (f : Farm) (c : Candidate) (why : RecordFault) (new : Farm) → FailsToOffer left f c why new → new ≡ f
same_at left f c fault.Store new fails = fails.2
same_at left f c fault.NoMemory new fails = fails

module _ (old : Farm) (moment : ℕ) (all : List Candidate) (left : ℕ) (f : Farm) (c : Candidate) where
  abbrev round : List Entry
  round = round_from BOOKINGS_EACH old moment all

  one_offered : (later : List Candidate) (left_then : ℕ) (new : Farm) → IsUnderWay old moment all left f (c ∷ later) → IsOffered left f moment c left_then new
      → IsUnderWay old moment all left_then new later
  one_offered later left_then new so offered = record {
    booked = so.booked ++ offered.booked;
    counted = omega (arith, so.counted, offered.counted, length-append so.booked offered.booked);
    made = offered.made ∙ (ap (λ (g : Farm). run_of g offered.booked) so.made ∙ sym (runs_on old so.booked offered.booked));
    goes_on =
        append_assoc so.booked offered.booked (round_from left_then new moment later)
        ∙ (ap (λ (es : List Entry). so.booked ++ es) (offered.goes_on later) ∙ so.goes_on);
  }

  -- the candidate at hand is the first of those that are left
  pub at_hand : (i : ℕ) → i < length all → c ≡ get_or all i c → IsUnderWay old moment all left f (drop i all) → IsUnderWay old moment all left f (c ∷ drop (i + 1) all)
  at_hand i within is so = subst (IsUnderWay old moment all left f) (next_item all i c within is) so

  -- the candidate at hand was offered
  pub then_offered : (i : ℕ) → i < length all → c ≡ get_or all i c → IsUnderWay old moment all left f (drop i all) → (new : Farm) (left_then : ℕ)
      → IsOffered left f moment c left_then new → IsUnderWay old moment all left_then new (drop (i + 1) all)
  then_offered i within is so new left_then offered = one_offered (drop (i + 1) all) left_then new (at_hand i within is so) offered

  unstored_next : (later : List Candidate) (so : IsUnderWay old moment all left f (c ∷ later)) → ChangesNone old round → 0 < left
      → IsUnstoredAt f c moment
  unstored_next later so none some may =
      let rest : ChangesNone f (round_from left f moment (c ∷ later)) =
      subst (λ (g : Farm). ChangesNone g (round_from left f moment (c ∷ later))) (sym so.made)
      (none_behind old so.booked (round_from left f moment (c ∷ later)) (subst (ChangesNone old) (sym so.goes_on) none)) in
      (subst (ChangesNone f) (begins f left c moment some may later) rest).0

  -- where the round changes no row, the booking of the candidate at hand changes none
  pub unstored_at : (i : ℕ) → i < length all → c ≡ get_or all i c → IsUnderWay old moment all left f (drop i all) → ChangesNone old round
      → 0 < left → IsUnstoredAt f c moment
  unstored_at i within is so none some = unstored_next (drop (i + 1) all) (at_hand i within is so) none some

  pub first_ones : (rest : List Candidate) (so : IsUnderWay old moment all left f rest) → so.booked ≡ take (length so.booked) round
  first_ones rest so = sym (ap (take (length so.booked)) (sym so.goes_on) ∙ take-append_seam so.booked (round_from left f moment rest))

  stopped : (rest : List Candidate) (new : Farm) (so : IsUnderWay old moment all left f rest) → new ≡ f → new ≡ run_of old (take (length so.booked) round)
  stopped rest new so same = same ∙ (so.made ∙ ap (run_of old) (first_ones rest so))

  -- as many bookings as were made so far, and those to come
  all_of : (rest : List Candidate) (so : IsUnderWay old moment all left f rest) → length round ≡ length so.booked + length (round_from left f moment rest)
  all_of rest so = ap (λ (es : List Entry). length es) (sym so.goes_on) ∙ length-append so.booked (round_from left f moment rest)

  one_missing : (later : List Candidate) (so : IsUnderWay old moment all left f (c ∷ later)) → 0 < left → may_book f c.slot c.host ≡ true → length so.booked < length round
  one_missing later so some may =
      let one_more : length (round_from left f moment (c ∷ later)) ≡ length (book_entry c moment ∷ round_from (left - 1) (after f (book_entry c moment)) moment later) =
      ap (λ (es : List Entry). length es) (begins f left c moment some may later) in
      omega (arith, all_of (c ∷ later) so, one_more)

  module _ (walked : Walked) (told : walked.booked ≡ BOOKINGS_EACH - left) where
    -- the round ended so after the bookings that were made so far
    ended : (rest : List Candidate) (so : IsUnderWay old moment all left f rest) (by : Cut) (new : Farm) → walked.cut ≡ by → EndsBy old round by (length so.booked) new → HasWalked old round walked new
    ended rest so by new cut_is ends =
        let many : walked.booked ≡ length so.booked = told ∙ omega (arith, so.counted) in
        subst (λ (k : ℕ). EndsBy old round walked.cut k new) (sym many) (subst (λ (c : Cut). EndsBy old round c (length so.booked) new) (sym cut_is) ends)

    -- all candidates were offered
    pub then_ends : walked.cut ≡ cut.Whole → IsUnderWay old moment all left f [] → HasWalked old round walked f
    then_ends cut_is so =
        let is : so.booked ≡ round = sym (append-nil so.booked) ∙ so.goes_on in
        ended [] so cut.Whole f cut_is (ap (λ (es : List Entry). length es) is, so.made ∙ ap (run_of old) is)

    module _ (i : ℕ) (within : i < length all) (is : c ≡ get_or all i c) (so : IsUnderWay old moment all left f (drop i all)) (new : Farm) where
      -- the store failed at the candidate at hand
      pub then_refused : (why : RecordFault) → why ≡ fault.Store → walked.cut ≡ cut.Store → FailsToOffer left f c why new → HasWalked old round walked new
      then_refused why store cut_is fails =
          let there = at_hand i within is so in
          let failed : FailsToOffer left f c fault.Store new = subst (λ (w : RecordFault). FailsToOffer left f c w new) store fails in
          ended (c ∷ drop (i + 1) all) there cut.Store new cut_is (one_missing (drop (i + 1) all) there failed.0 failed.1, stopped (c ∷ drop (i + 1) all) new there failed.2)

      -- memory ran out at the candidate at hand
      pub then_cut : (why : RecordFault) → walked.cut ≡ cut.Memory → FailsToOffer left f c why new → HasWalked old round walked new
      then_cut why cut_is fails =
          ended (drop i all) so cut.Memory new cut_is (omega (arith, all_of (drop i all) so), stopped (drop i all) new so (same_at left f c why new fails))

      -- a fault ended it there
      pub then_stopped : (why : RecordFault) → walked.cut ≡ cut_of why → FailsToOffer left f c why new → HasWalked old round walked new
      then_stopped fault.Store cut_is fails = then_refused fault.Store refl cut_is fails
      then_stopped fault.NoMemory cut_is fails = then_cut fault.NoMemory cut_is fails
