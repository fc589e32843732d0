-- A cores text: its digits.
use Rattle.std.proofs.Common.{rules, ◌≡◌, ℕ, ◌<◌, ◌≤◌, ◌^◌, true, List, length, ap, sym, subst, ◌∙◌, arith}
use Rattle.std.specs.Prelude.{Option, Some, None, Result, Ok, nat_le}
use Rattle.std.specs.List.{list_all}
use Rattle.std.specs.Option.{IfSome}
use Rattle.std.specs.Result.{result_ok}
use Rattle.std.specs.Str.Parse.{ParsesUnsigned, digits_value}
use Rattle.std.proofs.lemmas.Str.Parse.{IsNumeralModel, numerals_by_value, parse_gives, digits_value_short}
use Rattle.std.proofs.lemmas.Bool.{and_parts, leb-true, cond-true}
use Rattle.farm_types.specs.Forms.{is_between}
use Rattle.farm_lines.specs.Points.{is_digit, is_number_text, number_of}

numerals : IsNumeralModel (λ ds. list_all is_digit ds ≡ true) (digits_value 10)
numerals = numerals_by_value _ (search rules)

-- what `parse` gives of 1 to so many digits
number_parsed : {E : Type 0} (most : ℕ) (bs : List ℕ) (r : Result ℕ E) → ParsesUnsigned 32 10 bs r → is_number_text most bs ≡ true → most ≤ 5
    → (r ≡ Ok (digits_value 10 bs)) × (digits_value 10 bs < 10 ^ most)
number_parsed most bs r parsed number few =
    let parts = and_parts (is_between 1 most (length bs)) (list_all is_digit bs) number in
    let lengths = and_parts (nat_le 1 (length bs)) (nat_le (length bs) most) parts.0 in
    let some : 1 ≤ length bs = leb-true 1 (length bs) lengths.0 in
    let within : length bs ≤ most = leb-true (length bs) most lengths.1 in
    let small : digits_value 10 bs < 10 ^ 5 = digits_value_short numerals bs 5 parts.1 (omega arith) in
    (parse_gives numerals 32 bs r parsed parts.1 (omega arith) (omega arith), digits_value_short numerals bs most parts.1 within)

pub number_read : {E : Type 0} (most : ℕ) (bs : List ℕ) (r : Result ℕ E) (o : Option ℕ) → ParsesUnsigned 32 10 bs r → true ≡ is_number_text most bs → most ≤ 5
    → o ≡ result_ok r → (o ≡ number_of most bs) × IfSome o (λ n. n < 10 ^ most)
number_read {E} most bs r o parsed number few kept =
    let value = digits_value 10 bs in
    let read = number_parsed most bs r parsed (sym number) few in
    let Small : Option ℕ → Type 0 = λ x. IfSome x (λ n. n < 10 ^ most) in
    let is : o ≡ Some value = kept ∙ ap (λ (x : Result ℕ E). result_ok x) read.0 in
    (is ∙ sym (cond-true (is_number_text most bs) (Some value) None (sym number)), subst Small (sym is) read.1)
