-- The faults of a section.
use Rattle.std.specs.Prelude.{ℤ, pos, int_lt, int_le, Bool, false, ◌||◌, if◌then◌else◌}
use Rattle.std.specs.Ordering.{int_eq}
use Rattle.frame_range.specs.declared.section.Section.{Section}
use Rattle.frame_range.specs.declared.section.Section.TheVariants.{Single, Range, Stepped, Inverse, Interleaved}
use Rattle.frame_range.specs.Number.{is_past}

-- one of three numbers is out of range
abbrev pub any_past : ℤ → ℤ → ℤ → Bool
any_past first last step = is_past first || is_past last || is_past step

-- one of its numbers is out of range
abbrev pub has_past : Section → Bool
has_past (Single number) = is_past number
has_past (Range first last) = is_past first || is_past last
has_past (Stepped first last step) = any_past first last step
has_past (Inverse first last step) = any_past first last step
has_past (Interleaved first last step) = any_past first last step

-- its step is 0
abbrev pub has_zero_step : Section → Bool
has_zero_step (Single number) = false
has_zero_step (Range first last) = false
has_zero_step (Stepped first last step) = int_eq step (pos 0)
has_zero_step (Inverse first last step) = int_eq step (pos 0)
has_zero_step (Interleaved first last step) = int_eq step (pos 0)

-- the step is positive and the last number below the first, or the step isn't and the last number isn't
abbrev pub leads_away : ℤ → ℤ → ℤ → Bool
leads_away first last step = if int_lt (pos 0) step then int_lt last first else int_le first last

-- its step leads away from its last number
abbrev pub goes_wrong_way : Section → Bool
goes_wrong_way (Single number) = false
goes_wrong_way (Range first last) = false
goes_wrong_way (Stepped first last step) = leads_away first last step
goes_wrong_way (Inverse first last step) = leads_away first last step
goes_wrong_way (Interleaved first last step) = leads_away first last step
