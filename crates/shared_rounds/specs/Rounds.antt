-- A round of bookings beside others.
use Rattle.std.specs.Prelude.{◌≡◌, ◌⊎◌, ◌≤◌, ℕ, zero, suc, ◌+◌, ◌++◌, List, [], ◌∷◌, length, MatchResult, Some, slice_get}
use mathlib.Core.List.{IsPrefix}
use Rattle.farm_types.specs.declared.dispatch.Candidate.{Candidate}
use Rattle.farm_types.specs.declared.dispatch.Cut.{Cut}
use Rattle.farm_types.specs.declared.dispatch.Cut.TheVariants as cut
use Rattle.farm_types.specs.declared.entry.Entry.{Entry}
use Rattle.farm_types.specs.declared.limits.TheConstants.{BOOKINGS_EACH}
use Rattle.farm_types.specs.Dispatch.{book_entry, plan_for}
use Rattle.booking_rule.specs.declared.view.View.{View}
use Rattle.booking_rule.specs.Kept.{farm_in}
use Rattle.shared_bot.specs.booking_recorder.specs.declared.book_result.BookResult.{BookResult}
use Rattle.shared_bot.specs.booking_recorder.specs.declared.book_result.BookResult.TheVariants as came
use Rattle.shared_bot.specs.booking_recorder.specs.Passing.{Passing}
use Rattle.dispatcher.specs.Rounds.{cut_of, left_after}
use Rattle.shared_bot.specs.Passes.{CaughtUp}
use Rattle.shared_rounds.specs.declared.round.Outcome.{Outcome}
use Rattle.shared_rounds.specs.declared.round.Round.{Round}
use Rattle.shared_rounds.specs.Tries.{Tries}

-- ---- what a round does

-- no outcome comes any more, and this ended the round
abbrev pub IsOver : Cut → Passing → List Outcome → Cut → Passing → Type 0
IsOver end v outcomes ended w = (outcomes ≡ []) × (ended ≡ end) × (w ≡ v)

-- With so many bookings left each candidate in turn has its outcome, until no booking or no candidate is left, or a fault ends the round.
abbrev pub Walks : ℕ → ℕ → Passing → List Candidate → List Outcome → Cut → Passing → Type 0
Walks left moment v [] outcomes ended w = IsOver cut.Whole v outcomes ended w
Walks zero moment v (c ∷ cs) outcomes ended w = IsOver cut.Whole v outcomes ended w
Walks (suc left) moment v (c ∷ cs) [] ended w = ⊥
Walks (suc left) moment v (c ∷ cs) (o ∷ os) ended w =
    (u : Passing) × (o.candidate ≡ c) × Tries c moment v o.result u
    × MatchResult (left_after (suc left) o.result) (λ rest. Walks rest moment u cs os ended w) (λ why. IsOver (cut_of why) u os ended w)

-- The pass caught up, and the round walked the plan for the host in the farm that it had then seen; or memory was short for that.
pub record IsRoundBeside (v : Passing) (host moment : ℕ) (round : Round) (w : Passing) : Type 0 where
  pub planned : Passing
  pub caught : CaughtUp v planned [] 0
  pub walks : Walks BOOKINGS_EACH moment planned (plan_for (farm_in planned.view) host) round.outcomes round.cut w
      ⊎ IsOver cut.Memory planned round.outcomes round.cut w

-- ---- what follows from it

-- what the pass has seen grew, and it is the same one
pub record Grows (v w : View) : Type 0 where
  pub number : w.number ≡ v.number
  pub opening : w.opening ≡ v.opening
  pub journal : IsPrefix v.journal w.journal
  pub trail : IsPrefix v.trail w.trail
  pub desk_trail : IsPrefix v.desk_trail w.desk_trail

-- the candidates that were booked, in turn
abbrev pub booked_with : BookResult → Candidate → List Candidate → List Candidate
booked_with (came.Booked row) c cs = c ∷ cs
booked_with lost c cs = cs

abbrev pub booked_in : List Outcome → List Candidate
booked_in [] = []
booked_in (o ∷ os) = booked_with o.result o.candidate (booked_in os)

-- at these places of the journal, which rise from there on, stand the bookings of the candidates at that moment
abbrev pub AreBookedAt : List Entry → ℕ → ℕ → List ℕ → List Candidate → Type 0
AreBookedAt log moment from [] [] = Unit {0}
AreBookedAt log moment from (place ∷ places) (c ∷ cs) =
    (from ≤ place) × (slice_get log place ≡ Some (book_entry c moment)) × AreBookedAt log moment (place + 1) places cs
AreBookedAt log moment from places cs = ⊥

-- of a candidate that is booked the pass gained one receipt, of a place behind all that it had seen, where the entry stands; and else none
abbrev pub Gains : Entry → View → BookResult → View → Type 0
Gains e v (came.Booked row) w = (place : ℕ) × (length v.journal ≤ place) × (slice_get w.journal place ≡ Some e) × (w.receipts ≡ v.receipts ++ place ∷ [])
Gains e v lost w = w.receipts ≡ v.receipts

-- each outcome that is booked has a receipt of its own, which the pass gained in this order, and no other receipt
pub record HasBooked (v : Passing) (moment : ℕ) (outcomes : List Outcome) (w : Passing) : Type 0 where
  pub places : List ℕ
  pub receipts : w.view.receipts ≡ v.view.receipts ++ places
  pub booked : AreBookedAt w.view.journal moment (length v.view.journal) places (booked_in outcomes)
