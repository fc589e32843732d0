-- Reading a section's text.
use Rattle.std.specs.Prelude.{ℕ, ◌+◌, ℤ, Bool, ◌||◌, if◌then◌else◌, ◌==◌, List, [], ◌∷◌, take, drop, slice_index, Option, Some, None}
use Rattle.std.specs.Option.{option_map}
use Rattle.std.specs.List.{position}
use Rattle.frame_range.specs.declared.section.Section.{Section}
use Rattle.frame_range.specs.declared.section.Section.TheVariants.{Single, Range, Stepped, Inverse, Interleaved}
use Rattle.frame_range.specs.Number.{number_at}

-- the text without the spaces (byte 32) at its front
abbrev pub without_front : List ℕ → List ℕ
without_front [] = []
without_front (b ∷ bs) = if b == 32 then without_front bs else b ∷ bs

-- the byte and what comes after it, where a space alone is nothing
abbrev pub onto_back : ℕ → List ℕ → List ℕ
onto_back b [] = if b == 32 then [] else b ∷ []
onto_back b (c ∷ cs) = b ∷ c ∷ cs

-- the text without the spaces at its back
abbrev pub without_back : List ℕ → List ℕ
without_back [] = []
without_back (b ∷ bs) = onto_back b (without_back bs)

-- the text without the spaces at its ends
abbrev pub trimmed : List ℕ → List ℕ
trimmed text = without_back (without_front text)

-- the minus sign
abbrev pub is_dash : ℕ → Bool
is_dash b = b == 45

-- the marks x, y and : of a step
abbrev pub is_mark : ℕ → Bool
is_mark b = b == 120 || (b == 121 || b == 58)

-- a section of two numbers, where both are there
abbrev pub range_of : Option ℤ → Option ℤ → Option Section
range_of (Some first) (Some last) = Some (Range first last)
range_of (Some first) None = None
range_of None last = None

-- the section of three numbers that the mark says
abbrev pub marked : ℕ → ℤ → ℤ → ℤ → Section
marked mark first last step =
    if mark == 120 then Stepped first last step else (if mark == 121 then Inverse first last step else Interleaved first last step)

-- the same, where all three are there
abbrev pub marked_of : ℕ → Option ℤ → Option ℤ → Option ℤ → Option Section
marked_of mark (Some first) (Some last) (Some step) = Some (marked mark first last step)
marked_of mark (Some first) (Some last) None = None
marked_of mark (Some first) None step = None
marked_of mark None last step = None

-- `A-B`, or `A-BxN`, `A-ByN` or `A-B:N`, by what stands before and after the dash
abbrev pub range_at : List ℕ → List ℕ → Option Section
range_at first rest =
    elim (position is_mark rest) [
      | None ↦ range_of (number_at first) (number_at rest)
      | Some i ↦ marked_of (slice_index rest i) (number_at first) (number_at (take i rest)) (number_at (drop (i + 1) rest))
    ]

-- `A`, or a range, whose dash is the first one after the first byte
unfoldable pub section_at : List ℕ → Option Section
section_at text =
    elim (position is_dash (drop 1 text)) [
      | None ↦ option_map Single (number_at text)
      | Some i ↦ range_at (take (i + 1) text) (drop (i + 2) text)
    ]
