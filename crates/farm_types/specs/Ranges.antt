-- The frame range of a layer, as its row holds it: the text of a set as the set prints, and the numbers that it says.
use Rattle.std.specs.Prelude.{ℕ, ℤ, ◌&&◌, Bool, false, List, [], length, nat_le, bytes_eq, Result, Ok, Err}
use Rattle.frame_range.specs.declared.fault.RangeFault.{RangeFault}
use Rattle.frame_range.specs.declared.section.Section.{Section}
use Rattle.frame_range.specs.Printed.{printed}
use Rattle.frame_range.specs.Sets.{set_of, numbers_of}
use Rattle.farm_types.specs.declared.limits.TheConstants.{MOST_RANGE}

abbrev pub sections_in : Result (List Section) RangeFault → List Section
sections_in (Ok sections) = sections
sections_in (Err fault) = []

-- the numbers of a range's text, in order; none where it isn't the text of a set
unfoldable pub range_numbers : List ℕ → List ℤ
range_numbers text = numbers_of (sections_in (set_of text))

abbrev pub prints_as : List ℕ → Result (List Section) RangeFault → Bool
prints_as text (Ok sections) = bytes_eq text (printed sections)
prints_as text (Err fault) = false

-- the text of a set as the set prints, of so many bytes at most
unfoldable pub is_range_text : List ℕ → Bool
is_range_text text = nat_le (length text) MOST_RANGE && prints_as text (set_of text)
