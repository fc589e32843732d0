-- How many entries of a round are bookings: all.
use Rattle.std.proofs.Common.{◌≡◌, ℕ, suc, ◌+◌, ◌-◌, ◌≤◌, Bool, true, false, cond, ◌&&◌, List, [], ◌∷◌, length, take, zero, refl, sym, ap, ◌∙◌, arith}
use Rattle.std.specs.Prelude.{nat_lt}
use Rattle.std.proofs.lemmas.List.{length-take-le}
use Rattle.std.proofs.lemmas.List.Sums.{sum_by-cons}
use Rattle.farm_types.specs.declared.dispatch.Candidate.{Candidate}
use Rattle.farm_types.specs.declared.entry.Entry.{Entry}
use Rattle.farm_types.specs.declared.limits.TheConstants.{BOOKINGS_EACH}
use Rattle.farm_types.specs.Booking.{may_book}
use Rattle.farm_types.specs.Dispatch.{book_entry, plan_for, round_for, round_from}
use Rattle.farm_types.specs.Farm.{Farm}
use Rattle.farm_types.specs.Step.{after}
use Rattle.line_answers.specs.LineAnswers.{bookings_in, is_booking}

abbrev AreBookings : List Entry → Type 0
AreBookings [] = Unit {0}
AreBookings (e ∷ es) = (is_booking e.act ≡ true) × AreBookings es

round_books : (left : ℕ) (f : Farm) (moment : ℕ) (cs : List Candidate) → AreBookings (round_from left f moment cs)
round_books left f moment [] = tt
round_books left f moment (c ∷ cs) =
    by (nat_lt 0 left && may_book f c.slot c.host) (round_books (left - 1) (after f (book_entry c moment)) moment cs) (round_books left f moment cs)
  where
    by : (b : Bool) → AreBookings (round_from (left - 1) (after f (book_entry c moment)) moment cs) → AreBookings (round_from left f moment cs)
        → AreBookings (cond b (book_entry c moment ∷ round_from (left - 1) (after f (book_entry c moment)) moment cs) (round_from left f moment cs))
    by true booked passed = (refl, booked)
    by false booked passed = passed

front_books : (k : ℕ) (es : List Entry) → AreBookings es → AreBookings (take k es)
front_books zero es each = tt
front_books (suc k) [] each = tt
front_books (suc k) (e ∷ es) each = (each.0, front_books k es each.1)

-- one more where the first of them is a booking
counted_by : (e : Entry) (es : List Entry) (b : Bool) → is_booking e.act ≡ b → bookings_in (e ∷ es) ≡ cond b 1 0 + bookings_in es
counted_by e es b is = sum_by-cons (λ (x : Entry). cond (is_booking x.act) 1 0) e es ∙ ap (λ (test : Bool). cond test 1 0 + bookings_in es) is

one_more : (n m : ℕ) → n ≡ m → 1 + n ≡ suc m
one_more n m is = omega (arith, is)

no_more : (n : ℕ) → 0 + n ≡ n
no_more n = omega arith

counted_all : (es : List Entry) → AreBookings es → bookings_in es ≡ length es
counted_all [] each = refl
counted_all (e ∷ es) each = counted_by e es true each.0 ∙ one_more (bookings_in es) (length es) (counted_all es each.1)

counted_behind : (e : Entry) (es : List Entry) → is_booking e.act ≡ false → AreBookings es → bookings_in (e ∷ es) ≡ length es
counted_behind e es other each = counted_by e es false other ∙ (no_more (bookings_in es) ∙ counted_all es each)

module _ (old : Farm) (host moment : ℕ) (heard : Entry) (booked : ℕ) (other : is_booking heard.act ≡ false) where
  abbrev round : List Entry
  round = round_for old host moment

  books : AreBookings round
  books = round_books BOOKINGS_EACH old moment (plan_for old host)

  -- the whole round was booked
  pub booked_whole : booked ≡ length round → booked ≡ bookings_in (heard ∷ round)
  booked_whole all = all ∙ sym (counted_behind heard round other books)

  -- so many of its first were
  pub booked_front : booked ≤ length round → booked ≡ bookings_in (heard ∷ take booked round)
  booked_front some = sym (length-take-le booked round some) ∙ sym (counted_behind heard (take booked round) other (front_books booked round books))
