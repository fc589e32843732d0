-- A candidate that is tried: it is booked, or may not be, or a fault stops its booking.
use Rattle.std.proofs.Common.{◌≡◌, ℕ, ◌+◌, ◌-◌, ◌<◌, ◌^◌, ◌&&◌, Bool, true, false, cond, List, [], ◌∷◌, length, Result, Ok, Err, refl, sym, ap, subst, ◌∙◌, arith}
use Rattle.std.specs.Prelude.{nat_lt, ◌==◌}
use Rattle.std.proofs.lemmas.Bool.{eqb-true, lt-ltb}
use Rattle.farm_types.specs.declared.dispatch.Candidate.{Candidate}
use Rattle.farm_types.specs.declared.entry.Entry.{Entry}
use Rattle.farm_types.specs.Booking.{may_book, may_record}
use Rattle.farm_types.specs.Dispatch.{book_entry, round_from}
use Rattle.farm_types.specs.Farm.{Farm}
use Rattle.farm_types.specs.Step.{after}
use Rattle.farm_keeper.proofs.KeepingLaws.{Continues-same}
use Rattle.farm_keeper.specs.Keeping.{Committing, Continues}
use Rattle.booking_recorder.specs.recorder.specs.Faults.{is_store_fault}
use Rattle.booking_recorder.specs.recorder.specs.Recording.{HasSameRows}
use Rattle.booking_recorder.specs.recorder.specs.Telling.{TakesEach, TellsOf}
use Rattle.booking_recorder.specs.recorder.specs.declared.refusal.RecordFault.{RecordFault}
use Rattle.booking_recorder.specs.recorder.specs.declared.refusal.RecordFault.TheVariants as fault
use Rattle.booking_recorder.specs.declared.book_result.BookResult.{BookResult}
use Rattle.booking_recorder.specs.declared.book_result.BookResult.TheVariants as came
use Rattle.booking_recorder.specs.declared.refusal.ConfirmRefusal.{ConfirmRefusal}
use Rattle.booking_recorder.specs.declared.refusal.ConfirmRefusal.TheVariants as refusal
use Rattle.booking_recorder.specs.Alone.{BooksAlone, EntersAlone, TellsBook, is_store_book}
use Rattle.booking_recorder.specs.Recording.{Recording, most_entries}
use Rattle.booking_recorder.specs.Views.{Stays}
use Rattle.booking_recorder.proofs.Journaled.{journals_entered, journals_none, journals_stays}
use Rattle.dispatcher.specs.Ready.{IsReady, LeavesReady}
use Rattle.dispatcher.specs.Rounds.{FailsToOffer, IsOffered, IsUnstoredAt, JournalsOf, Offers, left_after, left_by}
use Rattle.dispatcher.proofs.Candidates.{due_is, ready_after}

-- ---- the round from here

module _ (f : Farm) (left : ℕ) (c : Candidate) (moment : ℕ) where
  -- .. by whether the candidate is booked
  abbrev round_by : List Candidate → Bool → List Entry
  round_by later b = cond b (book_entry c moment ∷ round_from (left - 1) (after f (book_entry c moment)) moment later) (round_from left f moment later)

  -- where bookings are left and it may be booked, it begins with its booking
  pub begins : 0 < left → may_book f c.slot c.host ≡ true → (later : List Candidate)
      → round_from left f moment (c ∷ later) ≡ book_entry c moment ∷ round_from (left - 1) (after f (book_entry c moment)) moment later
  begins some may later = ap (round_by later) test
    where
      test : (nat_lt 0 left && may_book f c.slot c.host) ≡ true
      test = rw (lt-ltb 0 left some, may) refl

  and_false : (b : Bool) → (b && false) ≡ false
  and_false true = refl
  and_false false = refl

  -- where it may not be booked, it is passed over
  passes : may_book f c.slot c.host ≡ false → (later : List Candidate) → round_from left f moment (c ∷ later) ≡ round_from left f moment later
  passes may later = ap (round_by later) (ap (λ (b : Bool). nat_lt 0 left && b) may ∙ and_false (nat_lt 0 left))

  offered_booked : 0 < left → may_book f c.slot c.host ≡ true → (new : Farm) → new ≡ after f (book_entry c moment) → IsOffered left f moment c (left - 1) new
  offered_booked some may new made =
      record {
        booked = book_entry c moment ∷ [];
        counted = omega (arith, some);
        made = made;
        goes_on = λ later. ap (λ (g : Farm). book_entry c moment ∷ round_from (left - 1) g moment later) made ∙ sym (begins some may later);
      }

  offered_passed : may_book f c.slot c.host ≡ false → (new : Farm) → new ≡ f → IsOffered left f moment c left new
  offered_passed may new same =
      record {
        booked = [];
        counted = omega arith;
        made = same;
        goes_on = λ later. ap (λ (g : Farm). round_from left g moment later) same ∙ sym (passes may later);
      }

leaves_same : (slot : ℕ) (f g : Farm) → g ≡ f → LeavesReady slot f g
leaves_same slot f g same = subst (λ (h : Farm). LeavesReady slot f h) (sym same) (λ cs off all. all)

-- ---- what came of it

module _ {K : Type 0} (commits : Committing K) (tells : K → Type 0) (faults : K → ℕ) (left : ℕ) (before now : Recording K) (c : Candidate) (moment : ℕ) (some : 0 < left)
    (ready : IsReady before.farm c)
    (same : (may_record before.farm c.slot c.host ≡ true → HasSameRows before.farm (after before.farm (book_entry c moment))) → now.keeper ≡ before.keeper) where
  abbrev Came : Result ℕ RecordFault → Type 0
  Came result = Offers commits tells faults left before c moment result now

  keeper_same : (0 < left → IsUnstoredAt before.farm c moment) → now.keeper ≡ before.keeper
  keeper_same unstored = same (λ may. unstored some (due_is before.farm c ready ∙ may))

  may_be : may_record before.farm c.slot c.host ≡ true → may_book before.farm c.slot c.host ≡ true
  may_be may = due_is before.farm c ready ∙ may

  -- its booking is its part of the round
  own : may_record before.farm c.slot c.host ≡ true → book_entry c moment ∷ [] ≡ round_from left before.farm moment (c ∷ [])
  own may = sym (begins before.farm left c moment some (may_be may) [])

  none : may_record before.farm c.slot c.host ≡ false → [] ≡ round_from left before.farm moment (c ∷ [])
  none may = sym (passes before.farm left c moment (due_is before.farm c ready ∙ may) [])

  -- it was passed over
  passed : may_record before.farm c.slot c.host ≡ false → now.farm ≡ before.farm → Continues tells faults before.keeper now.keeper false → now.keeper ≡ before.keeper
      → Stays before.view now.view → Came (Ok left)
  passed may farm keeper told stays =
      record {
        went = offered_passed before.farm left c moment (due_is before.farm c ready ∙ may) now.farm farm;
        failed = tt;
        ready = leaves_same c.slot before.farm now.farm farm;
        keeper = keeper;
        told = subst (λ (es : List Entry). TakesEach commits before.farm es before.keeper now.keeper) (none may) told;
        journals = subst (λ (es : List Entry). JournalsOf {T = ℕ} es (Ok left) before.view now.view) (none may) (journals_stays before.view now.view stays);
        same = keeper_same;
      }

  -- a fault stopped its booking
  fails_by : (why : RecordFault) → may_record before.farm c.slot c.host ≡ true → now.farm ≡ before.farm → FailsToOffer left before.farm c why now.farm
  fails_by fault.Store may farm = (some, may_be may, farm)
  fails_by fault.NoMemory may farm = farm

  stopped : (why : RecordFault) → may_record before.farm c.slot c.host ≡ true → now.farm ≡ before.farm
      → Continues tells faults before.keeper now.keeper (is_store_fault {T = ℕ} (Err why))
      → TellsOf {T = ℕ} commits before.farm (book_entry c moment ∷ []) (Err why) before.keeper now.keeper → Stays before.view now.view → Came (Err why)
  stopped why may farm keeper told stays =
      record {
        went = tt;
        failed = fails_by why may farm;
        ready = leaves_same c.slot before.farm now.farm farm;
        keeper = keeper;
        told = subst (λ (es : List Entry). TellsOf {T = ℕ} commits before.farm es (Err why) before.keeper now.keeper) (own may) told;
        journals = journals_stays before.view now.view stays;
        same = keeper_same;
      }

  module _ (room : length before.view.journal + left < 2 ^ 64) where
    -- the journal has room
    unspent : (length before.view.journal == most_entries) ≡ true → ⊥
    unspent spent = let is : length before.view.journal ≡ most_entries = eqb-true (length before.view.journal) most_entries spent in omega (arith, is, some, room)

    claimed : (why : ConfirmRefusal) → BooksAlone before.farm (length before.view.journal) c.slot c.host moment (came.Confirm why) now.farm
        → EntersAlone before.view (book_entry c moment) (came.Confirm why) now.view → Continues tells faults before.keeper now.keeper (is_store_book (came.Confirm why))
        → TellsBook commits before.farm c.slot c.host moment (came.Confirm why) before.keeper now.keeper → Came (left_by left why)
    claimed refusal.Store books enters keeper told = stopped fault.Store books.1 books.0 keeper told enters
    claimed refusal.Memory books enters keeper told = stopped fault.NoMemory books.1 books.0 keeper told enters
    claimed refusal.EntriesSpent books enters keeper told = absurd (unspent books.1)
    claimed (refusal.Withdrawn found) books enters keeper told = passed books.1 books.0 keeper told enters
    claimed refusal.Paused books enters keeper told = passed books.1 books.0 keeper told enters
    claimed (refusal.HostClosed state lock) books enters keeper told = passed books.1 books.0 keeper told enters
    claimed (refusal.BurstLowered booked burst) books enters keeper told = passed books.1 books.0 keeper told enters
    claimed (refusal.LimitLowered running most) books enters keeper told = passed books.1 books.0 keeper told enters

    offers_by : (r : BookResult) → BooksAlone before.farm (length before.view.journal) c.slot c.host moment r now.farm
        → EntersAlone before.view (book_entry c moment) r now.view → Continues tells faults before.keeper now.keeper (is_store_book r)
        → TellsBook commits before.farm c.slot c.host moment r before.keeper now.keeper → Came (left_after left r)
    offers_by (came.Booked row) books enters keeper told =
        record {
          went = offered_booked before.farm left c moment some (may_be books.0) now.farm books.1;
          failed = tt;
          ready = subst (λ (g : Farm). LeavesReady c.slot before.farm g) (sym books.1) (ready_after before.farm c moment);
          keeper = keeper;
          told = subst (λ (es : List Entry). TakesEach commits before.farm es before.keeper now.keeper) (own books.0) told;
          journals = subst (λ (es : List Entry). JournalsOf {T = ℕ} es (Ok (left - 1)) before.view now.view) (own books.0)
              (journals_entered before.view (book_entry c moment) now.view enters);
          same = keeper_same;
        }
    offers_by (came.Confirm why) books enters keeper told = claimed why books enters keeper told
    offers_by (came.Burst why) books enters keeper told = passed books.1 books.0 keeper told enters
    offers_by (came.Limit why) books enters keeper told = passed books.1 books.0 keeper told enters
    offers_by (came.Host why) books enters keeper told = passed books.1 books.0 keeper told enters
    offers_by (came.Taken found) books enters keeper told = passed books.1 books.0 keeper told enters

    pub offers : (r : BookResult) (result : Result ℕ RecordFault) → result ≡ left_after left r
        → BooksAlone before.farm (length before.view.journal) c.slot c.host moment r now.farm → EntersAlone before.view (book_entry c moment) r now.view
        → Continues tells faults before.keeper now.keeper (is_store_book r) → TellsBook commits before.farm c.slot c.host moment r before.keeper now.keeper → Came result
    offers r result is books enters keeper told = subst Came (sym is) (offers_by r books enters keeper told)

-- no booking is left
pub offers_none : {K : Type 0} (commits : Committing K) (tells : K → Type 0) (faults : K → ℕ) (before : Recording K) (c : Candidate) (moment : ℕ)
    → Offers commits tells faults 0 before c moment (Ok 0) before
offers_none commits tells faults before c moment =
    record {
      went = record { booked = []; counted = refl; made = refl; goes_on = λ later. refl };
      failed = tt;
      ready = λ cs off all. all;
      keeper = Continues-same tells faults before.keeper;
      told = refl;
      journals = journals_none before.view;
      same = λ _. refl;
    }
