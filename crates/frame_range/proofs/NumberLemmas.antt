-- The value of digits, capped as it is read.
use Rattle.std.proofs.Common.{◌≡◌, ℕ, ◌+◌, ◌*◌, ◌-◌, min, List, [], ◌∷◌, arith, refl, cond, true, get_or, ◌<◌, length, drop, pos}
use Rattle.std.specs.Prelude.{◌==◌}
use Rattle.std.specs.Option.{option_map}
use Rattle.std.specs.Str.{all_ascii_digits}
use Rattle.std.specs.Char.{is_ascii_digit}
use Rattle.std.proofs.lemmas.List.{drop_more}
use Rattle.frame_range.specs.Number.{value_from, digits_at, number_at, negative}
use Rattle.frame_range.specs.declared.limits.TheConstants.{CAP}

-- a capped value gives the same capped value with more digits
pub value_from_capped : (m n : ℕ) (ds : List ℕ) → min m CAP ≡ min n CAP → min (value_from m ds) CAP ≡ min (value_from n ds) CAP
value_from_capped m n [] e = e
value_from_capped m n (d ∷ ds) e = value_from_capped (m * 10 + (d - 48)) (n * 10 + (d - 48)) ds (omega arith)

pub digit_step : (m n d : ℕ) (ds : List ℕ) → m ≡ min (n * 10 + (d - 48)) CAP → min (value_from m ds) CAP ≡ min (value_from n (d ∷ ds)) CAP
digit_step m n d ds e = value_from_capped m (n * 10 + (d - 48)) ds (omega arith)

-- what an optional minus sign and digits are, by the first byte
pub number_at_first : (text : List ℕ) → number_at text ≡ cond (get_or text 0 0 == 45) (option_map negative (digits_at (drop 1 text))) (option_map pos (digits_at text))
number_at_first [] = refl
number_at_first (b ∷ bs) = refl

-- one more digit of a list that is read from the left
pub one_more : (text : List ℕ) (i m n : ℕ) → i < length text → m ≡ min (n * 10 + (get_or text i 0 - 48)) CAP →
    min (value_from m (drop (i + 1) text)) CAP ≡ min (value_from n (drop i text)) CAP
one_more text i m n within e = rw (drop_more text i 0 within) (digit_step m n (get_or text i 0) (drop (i + 1) text) e)

pub one_less : (text : List ℕ) (i : ℕ) → i < length text → is_ascii_digit (get_or text i 0) ≡ true → all_ascii_digits (drop (i + 1) text) ≡ all_ascii_digits (drop i text)
one_less text i within e = rw (drop_more text i 0 within, e) refl
