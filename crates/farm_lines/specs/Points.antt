-- Texts with a point: an allocation's facility and tag, and amounts of cores.
use Rattle.std.specs.Prelude.{ℕ, ◌+◌, ◌*◌, ◌==◌, ◌&&◌, List, [], ◌∷◌, length, Bool, Option, None, Some, if◌then◌else◌}
use Rattle.std.specs.List.{list_all}
use Rattle.std.specs.Option.{option_map}
use Rattle.std.specs.Str.Parse.{digits_value}
use Rattle.farm_types.specs.Forms.{is_between}

-- what stands before the first point: all, where there is none
abbrev pub before_point : List ℕ → List ℕ
before_point [] = []
before_point (b ∷ bs) = if b == 46 then [] else b ∷ before_point bs

-- what follows the first point
abbrev pub after_point : List ℕ → Option (List ℕ)
after_point [] = None
after_point (b ∷ bs) = if b == 46 then Some bs else after_point bs

abbrev pub is_digit : ℕ → Bool
is_digit b = is_between 48 57 b

-- 1 to so many decimal digits
abbrev pub is_number_text : ℕ → List ℕ → Bool
is_number_text most text = is_between 1 most (length text) && list_all is_digit text

-- the number that they write
abbrev pub number_of : ℕ → List ℕ → Option ℕ
number_of most text = if is_number_text most text then Some (digits_value 10 text) else None

-- the hundredths that one digit or two after a point stand for
abbrev pub hundredths_of : List ℕ → Option ℕ
hundredths_of part = if length part == 1 then option_map (λ (tenths : ℕ). 10 * tenths) (number_of 2 part) else number_of 2 part

-- the same where there may be no point
abbrev pub part_of : Option (List ℕ) → Option ℕ
part_of None = Some 0
part_of (Some part) = hundredths_of part

-- so many whole cores and hundredths
abbrev pub cores_from : Option ℕ → Option ℕ → Option ℕ
cores_from None part = None
cores_from (Some whole) None = None
cores_from (Some whole) (Some part) = Some (100 * whole + part)

-- the hundredths of a core that a cores text says
abbrev pub cores_of : List ℕ → Option ℕ
cores_of text = cores_from (number_of 5 (before_point text)) (part_of (after_point text))
