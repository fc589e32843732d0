-- How the code holds numbers that are out of range: as 10,000,000 or -10,000,000.
use Rattle.std.specs.Prelude.{ℤ, pos, negsuc, min}
use Rattle.frame_range.specs.declared.section.Section.{Section}
use Rattle.frame_range.specs.declared.section.Section.TheVariants.{Single, Range, Stepped, Inverse, Interleaved}
use Rattle.frame_range.specs.declared.limits.TheConstants.{CAP, GREATEST}

-- z where it is in range, and else the number just past the range on its side
abbrev pub capped : ℤ → ℤ
capped (pos n) = pos (min n CAP)
capped (negsuc n) = negsuc (min n GREATEST)

-- the section with its numbers so
abbrev pub capped_section : Section → Section
capped_section (Single number) = Single (capped number)
capped_section (Range first last) = Range (capped first) (capped last)
capped_section (Stepped first last step) = Stepped (capped first) (capped last) (capped step)
capped_section (Inverse first last step) = Inverse (capped first) (capped last) (capped step)
capped_section (Interleaved first last step) = Interleaved (capped first) (capped last) (capped step)
