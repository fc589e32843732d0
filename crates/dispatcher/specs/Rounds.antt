-- What a round of bookings does.
use Rattle.std.specs.Prelude.{ℕ, ◌≡◌, ◌≤◌, ◌<◌, ◌++◌, ◌+◌, ◌-◌, Bool, true, false, List, [], ◌∷◌, length, take, IfErr, IfOk, Result, Ok, Err}
use Rattle.farm_types.specs.Booking.{may_book}
use Rattle.farm_types.specs.declared.dispatch.Candidate.{Candidate}
use Rattle.farm_types.specs.declared.dispatch.Cut.{Cut}
use Rattle.farm_types.specs.declared.dispatch.Cut.TheVariants as cut
use Rattle.farm_types.specs.declared.entry.Entry.{Entry}
use Rattle.farm_types.specs.Dispatch.{book_entry, round_for, round_from}
use Rattle.farm_types.specs.Farm.{Farm}
use Rattle.farm_types.specs.Run.{run_of}
use Rattle.farm_types.specs.Step.{after}
use Rattle.farm_keeper.specs.Keeping.{Committing, Continues}
use Rattle.booking_rule.specs.declared.view.View.{View}
use Rattle.booking_recorder.specs.recorder.specs.declared.refusal.RecordFault.{RecordFault}
use Rattle.booking_recorder.specs.recorder.specs.declared.refusal.RecordFault.TheVariants as fault
use Rattle.booking_recorder.specs.recorder.specs.Faults.{is_store_fault}
use Rattle.booking_recorder.specs.recorder.specs.Recording.{HasSameRows}
use Rattle.booking_recorder.specs.recorder.specs.Telling.{TellsOf}
use Rattle.booking_recorder.specs.declared.book_result.BookResult.{BookResult}
use Rattle.booking_recorder.specs.declared.book_result.BookResult.TheVariants as came
use Rattle.booking_recorder.specs.declared.refusal.ConfirmRefusal.{ConfirmRefusal}
use Rattle.booking_recorder.specs.declared.refusal.ConfirmRefusal.TheVariants as refusal
use Rattle.booking_recorder.specs.Going.{Journals}
use Rattle.booking_recorder.specs.Recording.{Recording}
use Rattle.dispatcher.specs.Ready.{LeavesReady}
use Rattle.dispatcher.specs.declared.walked.Walked.{Walked}

-- ---- a candidate

-- the candidate is booked, or passed over: with these bookings, and so many left then, the round goes on as it goes from here
pub record IsOffered (left : ℕ) (f : Farm) (moment : ℕ) (c : Candidate) (left_then : ℕ) (new : Farm) : Type 0 where
  pub booked : List Entry
  pub counted : left_then + length booked ≡ left
  pub made : new ≡ run_of f booked
  pub goes_on : (later : List Candidate) → booked ++ round_from left_then new moment later ≡ round_from left f moment (c ∷ later)

-- the candidate isn't booked: the store failed, which it does only at a booking that is due; or memory ran out
abbrev pub FailsToOffer : ℕ → Farm → Candidate → RecordFault → Farm → Type 0
FailsToOffer left f c fault.Store new = (0 < left) × (may_book f c.slot c.host ≡ true) × (new ≡ f)
FailsToOffer left f c fault.NoMemory new = new ≡ f

-- where it may be booked, each row stays as it is
abbrev pub IsUnstoredAt : Farm → Candidate → ℕ → Type 0
IsUnstoredAt f c moment = may_book f c.slot c.host ≡ true → HasSameRows f (after f (book_entry c moment))

-- of these bookings, which are one or none, all are in the journal, or none is
abbrev pub JournalsOf : {T : Type 0} → List Entry → Result T RecordFault → View → View → Type 0
JournalsOf due (Ok _) v w = Journals v w due
JournalsOf due (Err _) v w = Journals v w []

-- the candidate's part of the round, which is one booking or none, was made; or a fault ended the round at it
pub record Offers {K : Type 0} (commits : Committing K) (tells : K → Type 0) (faults : K → ℕ) (left : ℕ) (before : Recording K) (c : Candidate) (moment : ℕ)
    (result : Result ℕ RecordFault) (now : Recording K) : Type 0 where
  pub went : IfOk result (λ left_then. IsOffered left before.farm moment c left_then now.farm)
  pub failed : IfErr result (λ why. FailsToOffer left before.farm c why now.farm)
  pub ready : LeavesReady c.slot before.farm now.farm
  pub keeper : Continues tells faults before.keeper now.keeper (is_store_fault result)
  pub told : TellsOf commits before.farm (round_from left before.farm moment (c ∷ [])) result before.keeper now.keeper
  pub journals : JournalsOf (round_from left before.farm moment (c ∷ [])) result before.view now.view
  pub same : (0 < left → IsUnstoredAt before.farm c moment) → now.keeper ≡ before.keeper

-- how many bookings are left, or the fault that ends the round, by what stopped a booking
abbrev pub left_by : ℕ → ConfirmRefusal → Result ℕ RecordFault
left_by left refusal.Store = Err fault.Store
left_by left refusal.Memory = Err fault.NoMemory
left_by left (refusal.Withdrawn found) = Ok left
left_by left refusal.EntriesSpent = Ok left
left_by left refusal.Paused = Ok left
left_by left (refusal.HostClosed state lock) = Ok left
left_by left (refusal.BurstLowered booked burst) = Ok left
left_by left (refusal.LimitLowered running most) = Ok left

-- .. and by what came of it
abbrev pub left_after : ℕ → BookResult → Result ℕ RecordFault
left_after left (came.Booked row) = Ok (left - 1)
left_after left (came.Confirm why) = left_by left why
left_after left (came.Burst why) = Ok left
left_after left (came.Limit why) = Ok left
left_after left (came.Host why) = Ok left
left_after left (came.Taken found) = Ok left

-- ---- a round

-- what a fault ends a round by
abbrev pub cut_of : RecordFault → Cut
cut_of fault.Store = cut.Store
cut_of fault.NoMemory = cut.Memory

-- the store ended the round
abbrev pub is_store_cut : Cut → Bool
is_store_cut cut.Store = true
is_store_cut other = false

-- of these bookings all were made; or those before one that the store refused; or, as memory ran out, some of the first
abbrev pub EndsBy : Farm → List Entry → Cut → ℕ → Farm → Type 0
EndsBy old bookings cut.Whole booked new = (booked ≡ length bookings) × (new ≡ run_of old bookings)
EndsBy old bookings cut.Store booked new = (booked < length bookings) × (new ≡ run_of old (take booked bookings))
EndsBy old bookings cut.Memory booked new = (booked ≤ length bookings) × (new ≡ run_of old (take booked bookings))

abbrev pub HasWalked : Farm → List Entry → Walked → Farm → Type 0
HasWalked old bookings walked new = EndsBy old bookings walked.cut walked.booked new

-- how a round that follows a report of the host went
abbrev pub IsRound : Farm → ℕ → ℕ → Walked → Farm → Type 0
IsRound old host moment walked new = HasWalked old (round_for old host moment) walked new
