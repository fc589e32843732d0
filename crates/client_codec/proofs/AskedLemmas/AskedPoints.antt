-- A text with a point is read as its two parts, and a cores text as the cores that it was written for.
use Rattle.std.proofs.Common.{rules, ◌≡◌, ℕ, ◌+◌, ◌*◌, ◌/◌, ◌%◌, ◌<◌, ◌≤◌, ◌^◌, Bool, true, false, List, [], ◌∷◌, ◌++◌, length, Some, IsUtf8, refl, sym, ap, ◌∙◌, arith, lt-ltb}
use Rattle.std.specs.Prelude.{None, decimal, nat_eq}
use Rattle.std.specs.Cmp.Derive.{both_true}
use Rattle.std.specs.Char.{digit_value}
use Rattle.std.specs.List.{list_all}
use Rattle.std.specs.Str.Parse.{digits_value}
use Rattle.std.proofs.lemmas.Bool.{cond-true, false≢true, ne_eqb}
use Rattle.std.proofs.lemmas.Fmt.{decimal_nonempty, digits_decimal, digits_value-decimal, IsAscii-decimal, length-decimal-le}
use Rattle.std.proofs.lemmas.Str.{digit_value_digit, IsUtf8-append, IsUtf8-from_ascii}
use Rattle.std.proofs.lemmas.Str.Parse.{IsNumeralModel, numerals_by_value}
use Rattle.json.proofs.Printed.Utf8.{IsUtf8-are_ascii}
use Rattle.farm_types.specs.declared.limits.TheConstants.{MOST_CORES}
use Rattle.farm_types.proofs.Lists.{and_both}
use Rattle.farm_lines.specs.Points.{after_point, before_point, cores_from, cores_of, is_digit, is_number_text, number_of, part_of}
use Rattle.farm_lines.specs.RequestText.{cores_text}
use Rattle.client_codec.proofs.FieldsBack.{between}

-- ---- the first point

-- what stands before and after it, where nothing before it is one
pub points : (test : ℕ → Bool) → test 46 ≡ false → (front rest : List ℕ) → list_all test front ≡ true → (before_point (front ++ 46 ∷ rest) ≡ front) × (after_point (front ++ 46 ∷ rest) ≡ Some rest)
points test none [] rest h = (refl, refl)
points test none (b ∷ bs) rest h =
    let p = and_both (test b) (list_all test bs) h in
    let other : nat_eq b 46 ≡ false = ne_eqb b 46 (λ is. false≢true (sym none ∙ ap test (sym is) ∙ p.0)) in
    let more = points test none bs rest p.1 in
    (rw other (ap (λ (xs : List ℕ). b ∷ xs) more.0), rw other more.1)

-- ---- numbers

numerals : IsNumeralModel (λ ds. list_all is_digit ds ≡ true) (digits_value 10)
numerals = numerals_by_value _ (search rules)

are_digits : (n : ℕ) → n < 2 ^ 64 → list_all is_digit (decimal n) ≡ true
are_digits n h = digits_decimal numerals n h

number_read : (most : ℕ) (text : List ℕ) (n : ℕ) → is_number_text most text ≡ true → digits_value 10 text ≡ n → number_of most text ≡ Some n
number_read most text n h is = cond-true (is_number_text most text) (Some (digits_value 10 text)) None h ∙ ap Some is

whole_read : (n : ℕ) → n < 10 ^ 5 → number_of 5 (decimal n) ≡ Some n
whole_read n h =
    let small : n < 2 ^ 64 = omega arith in
    number_read 5 (decimal n) n (both_true (between 1 5 (length (decimal n)) (decimal_nonempty n small, length-decimal-le 5 n (omega arith) h small)) (are_digits n small)) (digits_value-decimal numerals n small)

digit_is : (d : ℕ) → d < 10 → is_digit (48 + d) ≡ true
digit_is d h = between 48 57 (48 + d) (omega arith, omega arith)

digit_says : (d : ℕ) → d < 10 → digit_value (48 + d) ≡ d
digit_says d h = let is = digit_value_digit (48 + d) (omega arith, omega arith) in omega (arith, is)

part_read : (tens ones : ℕ) → tens < 10 → ones < 10 → part_of (Some ((48 + tens) ∷ (48 + ones) ∷ [])) ≡ Some (10 * tens + ones)
part_read tens ones t o =
    let t_says = digit_says tens t in
    let o_says = digit_says ones o in
    number_read 2 ((48 + tens) ∷ (48 + ones) ∷ []) (10 * tens + ones) (both_true (digit_is tens t) (both_true (digit_is ones o) refl)) (omega (arith, t_says, o_says))

-- ---- cores

module _ (cores : ℕ) (h : cores ≤ MOST_CORES) where
  tens : cores % 100 / 10 < 10
  tens = omega arith

  ones : cores % 10 < 10
  ones = omega arith

  sum_is : 100 * (cores / 100) + (10 * (cores % 100 / 10) + cores % 10) ≡ cores
  sum_is = omega arith

  pub cores_back : cores_of (cores_text cores) ≡ Some cores
  cores_back =
      let whole : cores / 100 < 10 ^ 5 = omega (arith, h) in
      let split = points is_digit refl (decimal (cores / 100)) ((48 + cores % 100 / 10) ∷ (48 + cores % 10) ∷ []) (are_digits (cores / 100) (omega (arith, whole))) in
      (λ i. cores_from (number_of 5 (split.0 i)) (part_of (split.1 i)))
      ∙ (λ i. cores_from (whole_read (cores / 100) whole i) (part_read (cores % 100 / 10) (cores % 10) tens ones i))
      ∙ ap Some sum_is

  pub cores_fit : IsUtf8 (cores_text cores)
  cores_fit =
      IsUtf8-append (decimal (cores / 100)) _ (IsUtf8-from_ascii _ (IsAscii-decimal (cores / 100) (omega (arith, h))))
      (IsUtf8-are_ascii (46 ∷ (48 + cores % 100 / 10) ∷ (48 + cores % 10) ∷ []) (both_true (lt-ltb (48 + cores % 100 / 10) 128 (omega (arith, tens))) (both_true (lt-ltb (48 + cores % 10) 128 (omega (arith, ones))) refl)))
