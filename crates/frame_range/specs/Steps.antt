-- The numbers of a section.
use Rattle.std.specs.Prelude.{ℕ, zero, suc, ◌+◌, ◌/◌, ℤ, pos, negsuc, ◌+ℤ◌, ◌-ℤ◌, unsigned_abs, int_lt, int_div, true, false, not, if◌then◌else◌, List, [], ◌∷◌}
use Rattle.std.specs.Int.{int_signum}
use Rattle.std.specs.Ordering.{int_eq}
use Rattle.std.specs.List.{flat_map, filter}
use Rattle.frame_range.specs.declared.section.Section.{Section}
use Rattle.frame_range.specs.declared.section.Section.TheVariants.{Single, Range, Stepped, Inverse, Interleaved}
use Rattle.frame_range.specs.Places.{has, without_repeats}

-- so many numbers from the first on, each a step after the one before
abbrev pub steps_from : ℤ → ℤ → ℕ → List ℤ
steps_from first step zero = []
steps_from first step (suc count) = first ∷ steps_from (first +ℤ step) step count

-- first, first + step, first + 2 step and so on, not past last
abbrev pub numbers_by : ℤ → ℤ → ℤ → List ℤ
numbers_by first last step = steps_from first step (unsigned_abs (first -ℤ last) / unsigned_abs step + 1)

-- one up, or one down where the last number is below the first
abbrev pub one_toward : ℤ → ℤ → ℤ
one_toward first last = if int_lt last first then negsuc 0 else pos 1

-- step, step / 2, step / 4 and so on (division toward zero) as long as it isn't 0, at most so many
abbrev pub halvings : ℕ → ℤ → List ℤ
halvings zero step = []
halvings (suc turns) step = elim (int_eq step (pos 0)) [ true ↦ [] | false ↦ step ∷ halvings turns (int_div step (pos 2)) ]

-- the numbers of the section, where its step isn't 0 and leads toward its last number
unfoldable pub section_numbers : Section → List ℤ
section_numbers (Single number) = number ∷ []
section_numbers (Range first last) = numbers_by first last (one_toward first last)
section_numbers (Stepped first last step) = numbers_by first last step
section_numbers (Inverse first last step) =
    filter (λ z. not (has (numbers_by first last step) z)) (numbers_by first last (int_signum step))
section_numbers (Interleaved first last step) =
    without_repeats (flat_map (numbers_by first last) (halvings (unsigned_abs step) step))
