-- A range's text, read once.
use Rattle.std.specs.Prelude.{ℕ, ◌≡◌, Bool, true, false, List, Option, None, Some}
use Rattle.frame_range.specs.declared.fault.RangeFault.{RangeFault}
use Rattle.frame_range.specs.declared.fault.RangeFault.TheVariants.{NoMemory}
use Rattle.frame_range.specs.declared.section.Section.{Section}
use Rattle.frame_range.specs.Sets.{numbers_of}
use Rattle.farm_types.specs.Ranges.{is_range_text, range_numbers}

-- the text is that of the set, and says the set's numbers
pub record IsRangeOf (text : List ℕ) (set : List Section) : Type 0 where
  pub formed : is_range_text text ≡ true
  pub numbers : range_numbers text ≡ numbers_of set

-- the set of a range's text, or none where it is no such text
abbrev pub Reads : List ℕ → Option (List Section) → Type 0
Reads text None = is_range_text text ≡ false
Reads text (Some set) = IsRangeOf text set

abbrev pub is_no_memory : RangeFault → Bool
is_no_memory NoMemory = true
is_no_memory other = false
