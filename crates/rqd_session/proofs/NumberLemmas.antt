-- Numbers in words of up to 20 digits, where they are ones of 64 bits.
use Rattle.std.proofs.Common.{rules, ◌≡◌, ℕ, ◌<◌, ◌≤◌, ◌^◌, ◌&&◌, Bool, true, false, true≢false, List, length, refl, ap, sym, ◌∙◌, arith, option_and_then}
use Rattle.std.specs.Prelude.{Option, Some, None, Result, Ok, Err, IsErr, nat_le}
use Rattle.std.specs.List.{list_all}
use Rattle.std.specs.Result.{result_ok}
use Rattle.std.specs.Str.Parse.{ParsesUnsigned, digits_value}
use Rattle.std.proofs.lemmas.Str.Parse.{IsNumeralModel, numerals_by_value, parse_digits, parse_gives}
use Rattle.std.proofs.lemmas.Bool.{and_parts, leb-true, leb-false, cond-true, cond-false, le-leb}
use Rattle.std.proofs.lemmas.Result.{IsErr-from_ok_iff}
use Rattle.farm_types.specs.Forms.{is_between}
use Rattle.farm_lines.specs.Points.{is_digit, is_number_text, number_of}
use Rattle.rqd_session.specs.Words.{amount_of, checked_between}
use Rattle.rqd_session.specs.declared.words.TheConstants.{MOST_NUMBER}

numerals : IsNumeralModel (λ ds. list_all is_digit ds ≡ true) (digits_value 10)
numerals = numerals_by_value _ (search rules)

-- the text is so many digits
record AreDigits (most : ℕ) (bs : List ℕ) : Type 0 where
  some : 1 ≤ length bs
  within : length bs ≤ most
  digits : list_all is_digit bs ≡ true

are_digits : (most : ℕ) (bs : List ℕ) → is_number_text most bs ≡ true → AreDigits most bs
are_digits most bs number =
    let parts = and_parts (is_between 1 most (length bs)) (list_all is_digit bs) number in
    let lengths = and_parts (nat_le 1 (length bs)) (nat_le (length bs) most) parts.0 in
    record { some = leb-true 1 (length bs) lengths.0; within = leb-true (length bs) most lengths.1; digits = parts.1 }

number_is : (most : ℕ) (bs : List ℕ) → is_number_text most bs ≡ true → number_of most bs ≡ Some (digits_value 10 bs)
number_is most bs number = cond-true (is_number_text most bs) (Some (digits_value 10 bs)) None number

between_is : (v : ℕ) (fits : Bool) → nat_le v MOST_NUMBER ≡ fits → is_between 0 MOST_NUMBER v ≡ fits
between_is v fits is = ap (λ b. b && nat_le v MOST_NUMBER) (le-leb 0 v (omega arith)) ∙ is

checked_by : {E : Type 0} (v : ℕ) (fits : Bool) (r : Result ℕ E) → nat_le v MOST_NUMBER ≡ fits → (v < 2 ^ 64 → r ≡ Ok v) → ((v < 2 ^ 64 → ⊥) → IsErr r)
    → result_ok r ≡ checked_between 0 MOST_NUMBER v
checked_by {E} v true r is ok none =
    ap (λ (x : Result ℕ E). result_ok x) (ok (omega (arith, leb-true v MOST_NUMBER is))) ∙ sym (cond-true (is_between 0 MOST_NUMBER v) (Some v) None (between_is v true is))
checked_by v false (Ok n) is ok none = absurd (true≢false (sym (none (λ low. omega (arith, low, leb-false v MOST_NUMBER is)))))
checked_by v false (Err e) is ok none = sym (cond-false (is_between 0 MOST_NUMBER v) (Some v) None (between_is v false is))

pub amount_read : {E : Type 0} (bs : List ℕ) (r : Result ℕ E) (o : Option ℕ) → ParsesUnsigned 64 10 bs r → true ≡ is_number_text 20 bs → o ≡ result_ok r
    → o ≡ amount_of bs
amount_read {E} bs r o parsed number kept =
    let are = are_digits 20 bs (sym number) in
    let v : ℕ = digits_value 10 bs in
    let iff = parse_digits numerals 64 bs r parsed are.digits in
    kept ∙ checked_by v (nat_le v MOST_NUMBER) r refl (parse_gives numerals 64 bs r parsed are.digits (omega (arith, are.some)))
    (λ high. IsErr-from_ok_iff r _ _ iff (λ both. high both.1))
    ∙ sym (ap (λ (found : Option ℕ). option_and_then (checked_between 0 MOST_NUMBER) found) (number_is 20 bs (sym number)))
