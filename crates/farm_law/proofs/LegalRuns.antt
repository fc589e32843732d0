-- Parts of legal runs, and the bookings of a round.
use Rattle.std.proofs.Common.{◌≡◌, ℕ, zero, suc, ◌-◌, ◌<◌, ◌^◌, ◌&&◌, Bool, true, false, cond, List, [], ◌∷◌, ◌++◌, take, refl}
use Rattle.std.specs.Prelude.{nat_lt}
use Rattle.farm_types.specs.declared.dispatch.Candidate.{Candidate}
use Rattle.farm_types.specs.declared.entry.Entry.{Entry}
use Rattle.farm_types.specs.Booking.{may_book, may_record, tags_match}
use Rattle.farm_types.specs.Dispatch.{book_entry, round_from}
use Rattle.farm_types.specs.Farm.{Farm}
use Rattle.farm_types.specs.Run.{IsLegal, IsLegalStep, run_of}
use Rattle.farm_types.specs.Step.{after}
use Rattle.farm_types.proofs.Lists.{and_both}

-- two legal runs, one after the other
pub legal_append : (f : Farm) (xs ys : List Entry) → IsLegal f xs → IsLegal (run_of f xs) ys → IsLegal f (xs ++ ys)
legal_append f [] ys first second = second
legal_append f (x ∷ xs) ys first second = (first.0, legal_append (after f x) xs ys first.1 second)

-- the front of a legal run
pub legal_take : (f : Farm) (k : ℕ) (xs : List Entry) → IsLegal f xs → IsLegal f (take k xs)
legal_take f zero xs legal = tt
legal_take f (suc k) [] legal = tt
legal_take f (suc k) (x ∷ xs) legal = (legal.0, legal_take (after f x) k xs legal.1)

-- a candidate that may be booked makes a legal step
book_legal : (f : Farm) (c : Candidate) (moment : ℕ) → moment < 2 ^ 64 → may_book f c.slot c.host ≡ true → IsLegalStep f (book_entry c moment)
book_legal f c moment low may =
    record {
      formed = record { moment_within = low; act_formed = tt };
      accepted = refl;
      condition = (and_both (may_record f c.slot c.host) (tags_match f c.slot c.host) may).0;
    }

round_step : (left : ℕ) (f : Farm) (moment : ℕ) (c : Candidate) (booked passed : List Entry) (b : Bool) → moment < 2 ^ 64 → (nat_lt 0 left && may_book f c.slot c.host) ≡ b
    → IsLegal (after f (book_entry c moment)) booked → IsLegal f passed → IsLegal f (cond b (book_entry c moment ∷ booked) passed)
round_step left f moment c booked passed true low is later other = (book_legal f c moment low (and_both (nat_lt 0 left) (may_book f c.slot c.host) is).1, later)
round_step left f moment c booked passed false low is later other = other

-- the bookings of a round
pub legal_round : (left : ℕ) (f : Farm) (moment : ℕ) (cs : List Candidate) → moment < 2 ^ 64 → IsLegal f (round_from left f moment cs)
legal_round left f moment [] low = tt
legal_round left f moment (c ∷ cs) low =
    let next = after f (book_entry c moment) in
    round_step left f moment c (round_from (left - 1) next moment cs) (round_from left f moment cs) (nat_lt 0 left && may_book f c.slot c.host) low refl
    (legal_round (left - 1) next moment cs low) (legal_round left f moment cs low)
