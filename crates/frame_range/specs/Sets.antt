-- The sections of a set's text, and the set's numbers.
use Rattle.std.specs.Prelude.{ℕ, ◌+◌, ◌<◌, nat_lt, ℤ, Bool, true, false, if◌then◌else◌, ◌==◌, List, [], ◌∷◌, ◌++◌, length, Option, Some, None, Result, Ok, Err, ◌≡◌}
use Rattle.std.specs.List.{flat_map}
use Rattle.frame_range.specs.declared.section.Section.{Section}
use Rattle.frame_range.specs.declared.fault.RangeFault.{RangeFault}
use Rattle.frame_range.specs.declared.fault.RangeFault.TheVariants.{Syntax, OutOfRange, ZeroStep, WrongWay, Empty, TooMany}
use Rattle.frame_range.specs.Checks.{has_past, has_zero_step, goes_wrong_way}
use Rattle.frame_range.specs.Places.{with_all, without_repeats}
use Rattle.frame_range.specs.Sections.{trimmed, section_at}
use Rattle.frame_range.specs.Steps.{section_numbers}
use Rattle.frame_range.specs.declared.limits.TheConstants.{MOST_NUMBERS}

-- the numbers of a set: its sections' numbers joined, later repeats removed
unfoldable pub numbers_of : List Section → List ℤ
numbers_of sections = without_repeats (flat_map section_numbers sections)

-- the list has no number
abbrev pub is_nil : List ℤ → Bool
is_nil [] = true
is_nil (z ∷ zs) = false

-- the first fault of a section that stands at this place after sections with these numbers
unfoldable pub fault_of : ℕ → List ℤ → Section → Option RangeFault
fault_of place listed s =
    if has_past s then Some (OutOfRange place)
    else (if has_zero_step s then Some (ZeroStep place)
    else (if goes_wrong_way s then Some (WrongWay place)
    else (if is_nil (section_numbers s) then Some (Empty place)
    else (if nat_lt MOST_NUMBERS (length (with_all listed (section_numbers s))) then Some (TooMany place)
    else None))))

-- the sections with one more, or its fault
abbrev pub with_section : List Section → Option Section → Result (List Section) RangeFault
with_section before None = Err (Syntax (length before + 1))
with_section before (Some s) =
    elim (fault_of (length before + 1) (numbers_of before) s) [ None ↦ Ok (before ++ s ∷ []) | Some fault ↦ Err fault ]

-- the same by the section's text
unfoldable pub add_section : List Section → List ℕ → Result (List Section) RangeFault
add_section before text = with_section before (section_at (trimmed text))

infixl 10 ◌>>=◌
-- what the next step answers, or the first fault
abbrev pub ◌>>=◌ : {A B : Type 0} → Result A RangeFault → (A → Result B RangeFault) → Result B RangeFault
(Ok x) >>= f = f x
(Err e) >>= f = Err e

-- the sections with those of the texts, or the first fault from the left
abbrev pub sections_from : List Section → List (List ℕ) → Result (List Section) RangeFault
sections_from before [] = Ok before
sections_from before (text ∷ texts) = add_section before text >>= λ now. sections_from now texts

-- the byte at the front of the first text
abbrev pub onto_first : ℕ → List (List ℕ) → List (List ℕ)
onto_first b [] = (b ∷ []) ∷ []
onto_first b (text ∷ texts) = (b ∷ text) ∷ texts

-- the comma
abbrev pub is_comma : ℕ → Bool
is_comma b = b == 44

-- the texts between the commas
abbrev pub pieces : List ℕ → List (List ℕ)
pieces [] = [] ∷ []
pieces (b ∷ bs) = if is_comma b then [] ∷ pieces bs else onto_first b (pieces bs)

-- the sections of a set's text, or its fault
unfoldable pub set_of : List ℕ → Result (List Section) RangeFault
set_of text = sections_from [] (pieces text)

-- the first fault of sections that come after others, by their count and numbers
abbrev pub fault_from : ℕ → List ℤ → List Section → Option RangeFault
fault_from place listed [] = None
fault_from place listed (s ∷ ss) =
    elim (fault_of place listed s) [ Some fault ↦ Some fault | None ↦ fault_from (place + 1) (with_all listed (section_numbers s)) ss ]

-- no section has a fault
pub record IsFaultless (sections : List Section) : Type 0 where
  pub faultless : fault_from 1 [] sections ≡ None

-- the sections of a set: at least one, none with a fault
pub record IsSet (sections : List Section) : Type 0 where
  pub faultless : fault_from 1 [] sections ≡ None
  pub some : 0 < length sections
