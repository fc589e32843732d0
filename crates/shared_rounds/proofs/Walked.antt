-- A round, candidate by candidate.
use Rattle.std.proofs.Common.{◌≡◌, ℕ, zero, suc, ◌+◌, ◌≤◌, ◌<◌, List, [], ◌∷◌, ◌++◌, length, length-append, drop, get_or, append_assoc, append-nil, drop-cons, Result, Ok, Err, sym, refl, ap, ◌∙◌, subst, arith}
use Rattle.std.specs.Prelude.{Some, min, slice_get, MatchResult}
use Rattle.std.proofs.lemmas.List.{drop_all}
use Rattle.std.proofs.lemmas.Option.{slice_get_within}
use mathlib.Core.List.{IsPrefix}
use Rattle.farm_types.specs.declared.dispatch.Candidate.{Candidate}
use Rattle.farm_types.specs.declared.dispatch.Cut.{Cut}
use Rattle.farm_types.specs.declared.dispatch.Cut.TheVariants as cut
use Rattle.farm_types.specs.declared.entry.Entry.{Entry}
use Rattle.farm_types.specs.declared.limits.TheConstants.{BOOKINGS_EACH}
use Rattle.farm_types.specs.Dispatch.{book_entry}
use Rattle.fault_counts.specs.Counts.{last_count}
use Rattle.booking_rule.specs.declared.opening.Opening.{Opening}
use Rattle.booking_rule.specs.declared.view.View.{View}
use Rattle.shared_bot.specs.booking_recorder.specs.declared.book_result.BookResult.{BookResult}
use Rattle.shared_bot.specs.booking_recorder.specs.declared.book_result.BookResult.TheVariants as came
use Rattle.shared_bot.specs.booking_recorder.specs.declared.refusal.ConfirmRefusal.TheVariants as refusal
use Rattle.shared_bot.specs.booking_recorder.specs.Passing.{Passing}
use Rattle.shared_bot.specs.recorder.specs.declared.refusal.RecordFault.{RecordFault}
use Rattle.shared_bot.specs.recorder.specs.declared.refusal.RecordFault.TheVariants as fault
use Rattle.dispatcher.specs.Rounds.{cut_of, left_after}
use Rattle.shared_bot.specs.Passes.{IsFree}
use Rattle.shared_rounds.specs.declared.round.Outcome.{Outcome}
use Rattle.shared_rounds.specs.Holding.{AreDue, IsDue}
use Rattle.shared_rounds.specs.Rounds.{AreBookedAt, Gains, Grows, HasBooked, IsOver, Walks, booked_in, booked_with}
use Rattle.shared_rounds.specs.Tries.{Tries}
use Rattle.shared_rounds.proofs.Held.{prefix_then}
use Rattle.shared_rounds.proofs.Sought.{all_due_grown}

-- ---- what the pass has seen grows

pub grows_none : (v : View) → Grows v v
grows_none v = record {
  number = refl;
  opening = refl;
  journal = ([], append-nil v.journal);
  trail = ([], append-nil v.trail);
  desk_trail = ([], append-nil v.desk_trail);
}

pub grows_then : (u v w : View) → Grows u v → Grows v w → Grows u w
grows_then u v w first second = record {
  number = second.number ∙ first.number;
  opening = second.opening ∙ first.opening;
  journal = prefix_then u.journal v.journal w.journal first.journal second.journal;
  trail = prefix_then u.trail v.trail w.trail first.trail second.trail;
  desk_trail = prefix_then u.desk_trail v.desk_trail w.desk_trail first.desk_trail second.desk_trail;
}

-- ---- receipts

get_front : {A : Type 0} (xs ys : List A) (n : ℕ) (x : A) → slice_get xs n ≡ Some x → slice_get (xs ++ ys) n ≡ Some x
get_front [] ys n x is = absurd (let w = slice_get_within [] n x is in omega (arith, w))
get_front (y ∷ xs) ys zero x is = is
get_front (y ∷ xs) ys (suc n) x is = get_front xs ys n x is

get_grown : {A : Type 0} (xs zs : List A) (n : ℕ) (x : A) → IsPrefix xs zs → slice_get xs n ≡ Some x → slice_get zs n ≡ Some x
get_grown {A = A} xs zs n x grew is = subst (λ (l : List A). slice_get l n ≡ Some x) grew.1 (get_front xs grew.0 n x is)

pub length_grown : (xs zs : List Entry) → IsPrefix xs zs → length xs ≤ length zs
length_grown xs zs grew = subst (λ (l : List Entry). length xs ≤ length l) grew.1 (longer xs grew.0)
  where
    longer : (xs ys : List Entry) → length xs ≤ length (xs ++ ys)
    longer [] ys = omega arith
    longer (x ∷ xs) ys = let more = longer xs ys in omega (arith, more)

module _ (moment : ℕ) (log later : List Entry) (grew : IsPrefix log later) where
  still_booked : (from : ℕ) (places : List ℕ) (cs : List Candidate) → AreBookedAt log moment from places cs → AreBookedAt later moment from places cs
  still_booked from [] [] at = tt
  still_booked from (p ∷ ps) (c ∷ cs) at = (at.0, get_grown log later p (book_entry c moment) grew at.1, still_booked (p + 1) ps cs at.2)
  still_booked from [] (c ∷ cs) at = at
  still_booked from (p ∷ ps) [] at = at

  one_booked : (from place : ℕ) (places : List ℕ) (cs : List Candidate) (c : Candidate) → AreBookedAt log moment from places cs → from ≤ length log → length log ≤ place
      → slice_get later place ≡ Some (book_entry c moment) → AreBookedAt later moment from (places ++ place ∷ []) (cs ++ c ∷ [])
  one_booked from place [] [] c at few past is = (omega (arith, few, past), is, tt)
  one_booked from place (p ∷ ps) (d ∷ ds) c at few past is =
      let within = slice_get_within log p (book_entry d moment) at.1 in
      (at.0, get_grown log later p (book_entry d moment) grew at.1, one_booked (p + 1) place ps ds c at.2 (omega (arith, within)) past is)
  one_booked from place [] (d ∷ ds) c at few past is = absurd at
  one_booked from place (p ∷ ps) [] c at few past is = absurd at

booked_behind : (r : BookResult) (c : Candidate) (xs ys : List Candidate) → booked_with r c (xs ++ ys) ≡ booked_with r c xs ++ ys
booked_behind (came.Booked row) c xs ys = refl
booked_behind (came.Burst why) c xs ys = refl
booked_behind (came.Limit why) c xs ys = refl
booked_behind (came.Host why) c xs ys = refl
booked_behind (came.Taken found) c xs ys = refl
booked_behind (came.Confirm why) c xs ys = refl

booked_more : (os : List Outcome) (o : Outcome) → booked_in (os ++ o ∷ []) ≡ booked_in os ++ booked_with o.result o.candidate []
booked_more [] o = refl
booked_more (x ∷ os) o = ap (booked_with x.result x.candidate) (booked_more os o) ∙ booked_behind x.result x.candidate (booked_in os) (booked_with o.result o.candidate [])

module _ (start : Passing) (moment : ℕ) (done : List Outcome) (now next : Passing) (c : Candidate) (grown : Grows start.view now.view) (grows : Grows now.view next.view)
    (had : HasBooked start moment done now) where
  abbrev log : List Entry
  log = now.view.journal

  booked_none : next.view.receipts ≡ now.view.receipts → HasBooked start moment done next
  booked_none same = record {
    places = had.places;
    receipts = same ∙ had.receipts;
    booked = still_booked moment log next.view.journal grows.journal (length start.view.journal) had.places (booked_in done) had.booked;
  }

  as_none : (r : BookResult) → booked_with r c [] ≡ [] → HasBooked start moment done next → HasBooked start moment (done ++ record { candidate = c; result = r } ∷ []) next
  as_none r none has = record {
    places = has.places;
    receipts = has.receipts;
    booked = subst (λ (cs : List Candidate). AreBookedAt next.view.journal moment (length start.view.journal) has.places cs)
        (sym (booked_more done (record { candidate = c; result = r }) ∙ (ap (λ (cs : List Candidate). booked_in done ++ cs) none ∙ append-nil (booked_in done))))
        has.booked;
  }

  pub has_booked : (r : BookResult) → Gains (book_entry c moment) now.view r next.view
      → HasBooked start moment (done ++ record { candidate = c; result = r } ∷ []) next
  has_booked (came.Booked row) gains = record {
    places = had.places ++ gains.0 ∷ [];
    receipts = gains.3 ∙ (ap (λ (l : List ℕ). l ++ gains.0 ∷ []) had.receipts ∙ append_assoc start.view.receipts had.places (gains.0 ∷ []));
    booked = subst (λ (cs : List Candidate). AreBookedAt next.view.journal moment (length start.view.journal) (had.places ++ gains.0 ∷ []) cs)
        (sym (booked_more done (record { candidate = c; result = came.Booked row })))
        (one_booked moment log next.view.journal grows.journal (length start.view.journal) gains.0 had.places (booked_in done) c had.booked
        (length_grown start.view.journal log grown.journal) gains.1 gains.2);
  }
  has_booked (came.Burst why) gains = as_none (came.Burst why) refl (booked_none gains)
  has_booked (came.Limit why) gains = as_none (came.Limit why) refl (booked_none gains)
  has_booked (came.Host why) gains = as_none (came.Host why) refl (booked_none gains)
  has_booked (came.Taken found) gains = as_none (came.Taken found) refl (booked_none gains)
  has_booked (came.Confirm why) gains = as_none (came.Confirm why) refl (booked_none gains)

-- ---- failures of the store

failures_stay : (c : Candidate) (moment : ℕ) (v w : Passing) (r : BookResult) → Tries c moment v r w → min v.faults last_count ≤ w.faults
failures_stay c moment v w (came.Booked row) tries =
    let had : tries.1.faults ≡ v.faults = tries.2.faults in
    let is = tries.3.caught.faults in
    omega (arith, had, is)
failures_stay c moment v w (came.Confirm why) tries =
    let had : tries.1.faults ≡ v.faults = tries.2.faults in
    let is = tries.3.1.caught.faults in
    let same : w.faults ≡ tries.3.0.faults = tries.3.2.faults in
    omega (arith, had, is, same)
failures_stay c moment v w (came.Burst why) tries = let same = tries.1 in omega (arith, same)
failures_stay c moment v w (came.Limit why) tries = let same = tries.1 in omega (arith, same)
failures_stay c moment v w (came.Host why) tries = let same = tries.1 in omega (arith, same)
failures_stay c moment v w (came.Taken found) tries = let same = tries.1 in omega (arith, same)

failed_so : (c : Candidate) (moment : ℕ) (v w : Passing) → Tries c moment v (came.Confirm refusal.Store) w → min (v.faults + 1) last_count ≤ w.faults
failed_so c moment v w tries =
    let had : tries.1.faults ≡ v.faults = tries.2.faults in
    let is = tries.3.1.caught.faults in
    let same : w.faults ≡ tries.3.0.faults = tries.3.2.faults in
    omega (arith, had, is, same)

no_fault : {A : Type 0} (left left' : ℕ) (why : RecordFault) → Ok left' ≡ Err why → A
no_fault left left' why is = absurd cc

-- the store ends a round only where it failed
pub failure_rises : (left : ℕ) (c : Candidate) (moment : ℕ) (v w : Passing) (r : BookResult) (why : RecordFault) → left_after left r ≡ Err why → cut_of why ≡ cut.Store
    → Tries c moment v r w → min (v.faults + 1) last_count ≤ w.faults
failure_rises left c moment v w (came.Confirm refusal.Store) why is by tries = failed_so c moment v w tries
failure_rises left c moment v w (came.Confirm refusal.Memory) why is by tries = absurd (memory why is by)
  where
    memory : (why : RecordFault) → left_after left (came.Confirm refusal.Memory) ≡ Err why → cut_of why ≡ cut.Store → ⊥
    memory fault.Store is by = cc
    memory fault.NoMemory is by = cc
failure_rises left c moment v w (came.Booked row) why is by tries = no_fault left _ why is
failure_rises left c moment v w (came.Burst full) why is by tries = no_fault left _ why is
failure_rises left c moment v w (came.Limit full) why is by tries = no_fault left _ why is
failure_rises left c moment v w (came.Host short) why is by tries = no_fault left _ why is
failure_rises left c moment v w (came.Taken found) why is by tries = no_fault left _ why is
failure_rises left c moment v w (came.Confirm (refusal.Withdrawn found)) why is by tries = no_fault left _ why is
failure_rises left c moment v w (came.Confirm refusal.EntriesSpent) why is by tries = no_fault left _ why is
failure_rises left c moment v w (came.Confirm refusal.Paused) why is by tries = no_fault left _ why is
failure_rises left c moment v w (came.Confirm (refusal.HostClosed state lock)) why is by tries = no_fault left _ why is
failure_rises left c moment v w (came.Confirm (refusal.BurstLowered booked burst)) why is by tries = no_fault left _ why is
failure_rises left c moment v w (came.Confirm (refusal.LimitLowered running most)) why is by tries = no_fault left _ why is

-- ---- the walk

next_item : (all : List Candidate) (i : ℕ) (c : Candidate) → i < length all → c ≡ get_or all i c → drop i all ≡ c ∷ drop (i + 1) all
next_item all i c within is =
    let next : suc i ≡ i + 1 = omega arith in
    drop-cons all i c within ∙ (ap (λ (k : ℕ). get_or all i c ∷ drop k all) next ∙ ap (λ (d : Candidate). d ∷ drop (i + 1) all) (sym is))

module _ (opening : Opening) (moment : ℕ) (start : Passing) (all : List Candidate) where
  -- with so many bookings left, and these candidates, it goes on to the round as it goes from the start
  pub record IsWalking (now : Passing) (left : ℕ) (done : List Outcome) (rest : List Candidate) : Type 0 where
    pub free : IsFree opening now.view
    pub due : AreDue now.view rest
    pub walks : (more : List Outcome) (ended : Cut) (w : Passing) → Walks left moment now rest more ended w → Walks BOOKINGS_EACH moment start all (done ++ more) ended w
    pub grows : Grows start.view now.view
    pub booked : HasBooked start moment done now
    pub faults : min start.faults last_count ≤ now.faults

  begins_walking : IsFree opening start.view → AreDue start.view all → IsWalking start BOOKINGS_EACH [] all
  begins_walking free due = record {
    free = free;
    due = due;
    walks = λ more ended w walks. walks;
    grows = grows_none start.view;
    booked = record { places = []; receipts = sym (append-nil start.view.receipts); booked = tt };
    faults = omega arith;
  }

  pub room_first : (outcomes : List Outcome) (room : ℕ) → outcomes ≡ [] → length all ≤ room → length outcomes + length (drop 0 all) ≤ room
  room_first outcomes room none fits = let long = ap length none in omega (arith, long, fits)

  pub begins_with : (outcomes : List Outcome) → outcomes ≡ [] → IsFree opening start.view → AreDue start.view all → IsWalking start BOOKINGS_EACH outcomes all
  begins_with outcomes none free due = subst (λ (os : List Outcome). IsWalking start BOOKINGS_EACH os all) (sym none) (begins_walking free due)

  -- how it went
  pub record WentSo (outcomes : List Outcome) (ended : Cut) (w : Passing) : Type 0 where
    pub free : IsFree opening w.view
    pub walks : Walks BOOKINGS_EACH moment start all outcomes ended w
    pub grows : Grows start.view w.view
    pub booked : HasBooked start moment outcomes w
    pub failed : ended ≡ cut.Store → min (start.faults + 1) last_count ≤ w.faults

  pub went_as : (os : List Outcome) (ended : Cut) (w : Passing) (outcomes : List Outcome) (end : Cut) → outcomes ≡ os → end ≡ ended → WentSo os ended w
      → WentSo outcomes end w
  went_as os ended w outcomes end same by went = subst (λ (x : List Outcome × Cut). WentSo x.0 x.1 w) (λ i. (sym same i, sym by i)) went

  module _ (now : Passing) (left : ℕ) (done : List Outcome) (c : Candidate) (i : ℕ) (within : i < length all) (is : c ≡ get_or all i c)
      (so : IsWalking now left done (drop i all)) where
    front : IsWalking now left done (c ∷ drop (i + 1) all)
    front = subst (IsWalking now left done) (next_item all i c within is) so

    pub due_now : IsDue now.view c
    due_now = front.due.0

    abbrev one_outcome : BookResult → Outcome
    one_outcome r = record { candidate = c; result = r }

    module _ (some : 0 < left) (r : BookResult) (next : Passing) (free : IsFree opening next.view) (grows : Grows now.view next.view)
        (tries : Tries c moment now r next) (gains : Gains (book_entry c moment) now.view r next.view) where
      steps : (n : ℕ) → n ≡ left → (more : List Outcome) (ended : Cut) (w : Passing)
          → MatchResult (left_after n r) (λ rest. Walks rest moment next (drop (i + 1) all) more ended w) (λ why. IsOver (cut_of why) next more ended w)
          → Walks n moment now (c ∷ drop (i + 1) all) (one_outcome r ∷ more) ended w
      steps zero same more ended w goes = absurd (omega (arith, some, same))
      steps (suc n) same more ended w goes = (next, refl, tries, goes)

      all_steps : (more : List Outcome) (ended : Cut) (w : Passing)
          → MatchResult (left_after left r) (λ rest. Walks rest moment next (drop (i + 1) all) more ended w) (λ why. IsOver (cut_of why) next more ended w)
          → Walks BOOKINGS_EACH moment start all ((done ++ one_outcome r ∷ []) ++ more) ended w
      all_steps more ended w goes =
          subst (λ (os : List Outcome). Walks BOOKINGS_EACH moment start all os ended w) (sym (append_assoc done (one_outcome r ∷ []) more))
          (front.walks (one_outcome r ∷ more) ended w (steps left refl more ended w goes))

      still : min start.faults last_count ≤ next.faults
      still = let had = so.faults in let on = failures_stay c moment now next r tries in omega (arith, had, on)

      all_booked : HasBooked start moment (done ++ one_outcome r ∷ []) next
      all_booked = has_booked start moment done now next c so.grows grows so.booked r gains

      -- the round goes on
      pub walks_on : (left_then : ℕ) → left_after left r ≡ Ok left_then → IsWalking next left_then (done ++ one_outcome r ∷ []) (drop (i + 1) all)
      walks_on left_then goes = record {
        free = free;
        due = all_due_grown now.view next.view (drop (i + 1) all) grows.opening grows.journal front.due.1;
        walks = λ more ended w walks.
            all_steps more ended w
            (subst (λ (x : Result ℕ RecordFault). MatchResult x (λ rest. Walks rest moment next (drop (i + 1) all) more ended w) (λ why. IsOver (cut_of why) next more ended w))
            (sym goes) walks);
        grows = grows_then start.view now.view next.view so.grows grows;
        booked = all_booked;
        faults = still;
      }

      -- a fault ended it there
      pub walk_stops : (why : RecordFault) → left_after left r ≡ Err why → WentSo (done ++ one_outcome r ∷ []) (cut_of why) next
      walk_stops why stops = record {
        free = free;
        walks = subst (λ (os : List Outcome). Walks BOOKINGS_EACH moment start all os (cut_of why) next) (append-nil (done ++ one_outcome r ∷ []))
            (all_steps [] (cut_of why) next
            (subst (λ (x : Result ℕ RecordFault). MatchResult x (λ rest. Walks rest moment next (drop (i + 1) all) [] (cut_of why) next) (λ fault. IsOver (cut_of fault) next [] (cut_of why) next))
            (sym stops) (refl, refl, refl)));
        grows = grows_then start.view now.view next.view so.grows grows;
        booked = all_booked;
        failed = λ by.
            (let had = so.faults in
            let rose = failure_rises left c moment now next r why stops by tries in
            omega (arith, had, rose));
      }

    -- there is room for its outcome, and for those behind it
    pub room_now : (room : ℕ) → length done + length (drop i all) ≤ room → length done < room
    room_now room fits = let more = ap length (next_item all i c within is) in omega (arith, fits, more)

    pub room_next : (room : ℕ) (o : Outcome) → length done + length (drop i all) ≤ room → length (done ++ o ∷ []) + length (drop (i + 1) all) ≤ room
    room_next room o fits =
        let more = ap length (next_item all i c within is) in
        let long = length-append done (o ∷ []) in
        omega (arith, fits, more, long)

    -- no booking was left
    pub walk_full : left ≡ 0 → WentSo done cut.Whole now
    walk_full none = record {
      free = so.free;
      walks = subst (λ (os : List Outcome). Walks BOOKINGS_EACH moment start all os cut.Whole now) (append-nil done) (front.walks [] cut.Whole now (over left none));
      grows = so.grows;
      booked = so.booked;
      failed = λ by. absurd (not_store by);
    }
      where
        over : (n : ℕ) → n ≡ 0 → Walks n moment now (c ∷ drop (i + 1) all) [] cut.Whole now
        over zero is = (refl, refl, refl)
        over (suc n) is = absurd (omega (arith, is))

        not_store : cut.Whole ≡ cut.Store → ⊥
        not_store by = cc

  -- all candidates were tried
  pub walk_ends : (now : Passing) (left i : ℕ) (done : List Outcome) → length all ≤ i → IsWalking now left done (drop i all) → WentSo done cut.Whole now
  walk_ends now left i done past so =
      let last : IsWalking now left done [] = subst (IsWalking now left done) (drop_all i all past) so in
      record {
        free = so.free;
        walks = subst (λ (os : List Outcome). Walks BOOKINGS_EACH moment start all os cut.Whole now) (append-nil done) (last.walks [] cut.Whole now (refl, refl, refl));
        grows = so.grows;
        booked = so.booked;
        failed = λ by. absurd (not_store by);
      }
    where
      not_store : cut.Whole ≡ cut.Store → ⊥
      not_store by = cc
