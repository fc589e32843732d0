-- A number of a section: an optional minus sign and at least one digit.
use Rattle.std.specs.Prelude.{ℕ, ◌+◌, ◌*◌, ◌-◌, ℤ, pos, neg_ℤ, unsigned_abs, nat_lt, Bool, if◌then◌else◌, ◌==◌, List, [], ◌∷◌}
use Rattle.std.specs.Prelude.{Option, Some, None}
use Rattle.std.specs.Option.{option_map}
use Rattle.std.specs.Str.{all_ascii_digits}
use Rattle.frame_range.specs.declared.limits.TheConstants.{GREATEST}

-- what the digits write, after those that write n
abbrev pub value_from : ℕ → List ℕ → ℕ
value_from n [] = n
value_from n (d ∷ ds) = value_from (n * 10 + (d - 48)) ds

-- at least one digit, and nothing but digits
abbrev pub digits_at : List ℕ → Option ℕ
digits_at [] = None
digits_at (d ∷ ds) = if all_ascii_digits (d ∷ ds) then Some (value_from 0 (d ∷ ds)) else None

-- -n
abbrev pub negative : ℕ → ℤ
negative n = neg_ℤ (pos n)

-- digits, or a minus sign (byte 45) and digits
abbrev pub number_at : List ℕ → Option ℤ
number_at [] = None
number_at (b ∷ bs) = if b == 45 then option_map negative (digits_at bs) else option_map pos (digits_at (b ∷ bs))

-- past 9,999,999 or below -9,999,999
abbrev pub is_past : ℤ → Bool
is_past z = nat_lt GREATEST (unsigned_abs z)
