-- One candidate of a round beside others: its outcome, and the steps that led to it.
use Rattle.std.specs.Prelude.{◌≡◌, ◌≢◌, ℕ, ◌++◌, List, [], ◌∷◌, length, Some, true, if◌then◌else◌}
use Rattle.farm_types.specs.declared.attempt.ProcRow.{ProcRow}
use Rattle.farm_types.specs.declared.dispatch.Candidate.{Candidate}
use Rattle.farm_types.specs.Booking.{may_record}
use Rattle.farm_types.specs.Run.{live_at}
use Rattle.frame_words.specs.Bits.{frame_bits}
use Rattle.booking_rule.specs.declared.noted.Noted.{Noted}
use Rattle.booking_rule.specs.declared.view.View.{View}
use Rattle.booking_rule.specs.Kept.{farm_in}
use Rattle.booking_core.specs.Kinds.{claim_item, setup_for}
use Rattle.booking_table.specs.declared.claiming.Dropped.{Dropped}
use Rattle.booking_table.specs.declared.holds.Claim.{Claim}
use Rattle.booking_table.specs.declared.seen.Seen.{Seen}
use Rattle.booking_table.specs.Calls.{IsDropped}
use Rattle.booking_table.specs.Holds.{claim_of}
use Rattle.recording_core.specs.Records.{running_for}
use Rattle.shared_bot.specs.booking_recorder.specs.declared.book_result.BookResult.{BookResult}
use Rattle.shared_bot.specs.booking_recorder.specs.declared.book_result.BookResult.TheVariants as came
use Rattle.shared_bot.specs.booking_recorder.specs.declared.refusal.ConfirmRefusal.{ConfirmRefusal}
use Rattle.shared_bot.specs.booking_recorder.specs.Claims.{IsCause, entry_for}
use Rattle.shared_bot.specs.booking_recorder.specs.Faults.{is_at_store}
use Rattle.shared_bot.specs.booking_recorder.specs.Passing.{Passing}
use Rattle.shared_bot.specs.Passes.{CaughtUp, farm_before}
use Rattle.shared_rounds.specs.Steps.{HasFrame, IsLost, claim_for}

-- ---- a claim, under the lock

-- it was booked: the booking is the last entry that the pass has then seen, and has its receipt; the farm before it let it be recorded
pub record IsBooked (claim : Claim) (moment : ℕ) (row : ProcRow) (v w : Passing) : Type 0 where
  pub caught : CaughtUp v w (entry_for claim moment ∷ []) 0
  pub may : may_record (farm_before v caught.others) claim.slot claim.hold.host ≡ true
  pub live : live_at (farm_in w.view) claim.slot ≡ Some row

-- the recorder's exchange of the claim's word found another one, in the part of its trail that was taken in
abbrev pub IsWithdrawnIn : Claim → View → View → ℕ → Type 0
IsWithdrawnIn claim v w found =
    (found ≢ frame_bits (setup_for (claim_of claim))) × (before after : List Noted)
    × (w.desk_trail ≡ (v.desk_trail ++ before) ++ claim_item 10 (claim_of claim) (running_for (claim_of claim)) found found ∷ after)

-- how often the store failed
abbrev pub failures_of : ConfirmRefusal → ℕ
failures_of why = if is_at_store why then 1 else 0

-- it wasn't: nothing was recorded for it, and the cause is one of the farm that the pass has then seen
pub record IsUnbooked (claim : Claim) (why : ConfirmRefusal) (v w : Passing) : Type 0 where
  pub caught : CaughtUp v w [] (failures_of why)
  pub cause : IsCause (IsWithdrawnIn claim v.view w.view) (farm_in w.view) (length w.view.journal) claim.slot claim.hold.host why

-- .. and then the claim was let go
pub record IsLetGo (claim : Claim) (v w : Passing) : Type 0 where
  pub dropped : Dropped
  pub drops : IsDropped v.view claim dropped w.view
  pub faults : w.faults ≡ v.faults

abbrev pub IsLeft : Claim → ConfirmRefusal → Passing → Passing → Type 0
IsLeft claim why v w = (u : Passing) × IsUnbooked claim why v u × IsLetGo claim u w

-- by its outcome
abbrev pub Confirms : Claim → ℕ → Passing → BookResult → Passing → Type 0
Confirms claim moment v (came.Booked row) w = IsBooked claim moment row v w
Confirms claim moment v (came.Confirm why) w = IsLeft claim why v w
Confirms claim moment v lost w = ⊥

-- ---- one candidate

-- its frame was claimed before the lock was taken
pub record HasClaim (c : Candidate) (v : Passing) (seen : Seen) (w : Passing) : Type 0 where
  pub frame : HasFrame c v.view seen w.view
  pub faults : w.faults ≡ v.faults

abbrev pub Tries : Candidate → ℕ → Passing → BookResult → Passing → Type 0
Tries c moment v (came.Booked row) w = (seen : Seen) × (u : Passing) × HasClaim c v seen u × IsBooked (claim_for c seen) moment row u w
Tries c moment v (came.Confirm why) w = (seen : Seen) × (u : Passing) × HasClaim c v seen u × IsLeft (claim_for c seen) why u w
Tries c moment v lost w = IsLost c v.view lost w.view × (w.faults ≡ v.faults)
