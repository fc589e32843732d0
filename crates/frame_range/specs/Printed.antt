-- The text that a set prints as.
use Rattle.std.specs.Prelude.{ℕ, ℤ, List, [], ◌∷◌, ◌++◌}
use Rattle.std.specs.Fmt.{signed_decimal}
use Rattle.frame_range.specs.declared.section.Section.{Section}
use Rattle.frame_range.specs.declared.section.Section.TheVariants.{Single, Range, Stepped, Inverse, Interleaved}

-- the two numbers of a range with a dash (byte 45)
abbrev pub printed_range : ℤ → ℤ → List ℕ
printed_range first last = signed_decimal first ++ 45 ∷ signed_decimal last

-- a range, a mark and a step
abbrev pub printed_marked : ℤ → ℤ → ℕ → ℤ → List ℕ
printed_marked first last mark step = signed_decimal first ++ 45 ∷ (signed_decimal last ++ mark ∷ signed_decimal step)

-- the section without spaces, its numbers without leading zeros
unfoldable pub printed_section : Section → List ℕ
printed_section (Single number) = signed_decimal number
printed_section (Range first last) = printed_range first last
printed_section (Stepped first last step) = printed_marked first last 120 step
printed_section (Inverse first last step) = printed_marked first last 121 step
printed_section (Interleaved first last step) = printed_marked first last 58 step

-- a comma (byte 44) and the section, for each of the sections
abbrev pub printed_rest : List Section → List ℕ
printed_rest [] = []
printed_rest (s ∷ ss) = 44 ∷ printed_section s ++ printed_rest ss

-- the sections joined by commas
abbrev pub printed : List Section → List ℕ
printed [] = []
printed (s ∷ ss) = printed_section s ++ printed_rest ss
