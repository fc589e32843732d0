-- A round as it ended, from where the pass stood before its plan.
use Rattle.std.proofs.Common.{◌≡◌, ℕ, ◌≤◌, List, [], ◌∷◌, ◌++◌, length, length-take, append-nil, ap, ◌∙◌, arith}
use Rattle.std.specs.Prelude.{min}
use Rattle.farm_types.specs.declared.dispatch.Candidate.{Candidate}
use Rattle.farm_types.specs.declared.entry.Entry.{Entry}
use Rattle.farm_types.specs.declared.limits.TheConstants.{CANDIDATES_EACH}
use Rattle.farm_types.specs.Dispatch.{order_for, plan_for}
use Rattle.farm_types.specs.Farm.{Farm}
use Rattle.shared_bot.specs.booking_recorder.specs.Passing.{Passing}
use Rattle.shared_bot.specs.Passes.{CaughtUp}
use Rattle.shared_rounds.specs.declared.round.Outcome.{Outcome}
use Rattle.shared_rounds.specs.Rounds.{AreBookedAt, HasBooked, booked_in}
use Rattle.shared_rounds.proofs.Walked.{length_grown}

pub plan_length : (f : Farm) (host room : ℕ) (cs : List Candidate) → cs ≡ plan_for f host → CANDIDATES_EACH ≤ room → length cs ≤ room
plan_length f host room cs is fits =
    let long : length cs ≡ min CANDIDATES_EACH (length (order_for f host)) = ap length is ∙ length-take CANDIDATES_EACH (order_for f host) in
    omega (arith, long, fits)

-- from an earlier place on
lower : (log : List Entry) (moment from low : ℕ) (places : List ℕ) (cs : List Candidate) → low ≤ from → AreBookedAt log moment from places cs
    → AreBookedAt log moment low places cs
lower log moment from low [] [] below at = tt
lower log moment from low (p ∷ ps) (c ∷ cs) below at = let here = at.0 in (omega (arith, here, below), at.1, at.2)
lower log moment from low [] (c ∷ cs) below at = at
lower log moment from low (p ∷ ps) [] below at = at

pub planned_booked : (v u w : Passing) (moment : ℕ) (outcomes : List Outcome) → CaughtUp v u [] 0 → HasBooked u moment outcomes w → HasBooked v moment outcomes w
planned_booked v u w moment outcomes caught booked =
    let had = caught.receipts ∙ append-nil v.view.receipts in
    record {
      places = booked.places;
      receipts = booked.receipts ∙ ap (λ (l : List ℕ). l ++ booked.places) had;
      booked = lower w.view.journal moment (length u.view.journal) (length v.view.journal) booked.places (booked_in outcomes)
          (length_grown v.view.journal u.view.journal caught.learns.journal) booked.booked;
    }
