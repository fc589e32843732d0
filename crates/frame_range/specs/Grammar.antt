-- What a section's text is: which texts spell which section.
use Rattle.std.specs.Prelude.{ℕ, ◌<◌, ℤ, pos, ◌≡◌, ◌⊎◌, true, List, ◌∷◌, ◌++◌, length, replicate}
use Rattle.std.specs.Str.{all_ascii_digits}
use Rattle.frame_range.specs.declared.section.Section.{Section}
use Rattle.frame_range.specs.declared.section.Section.TheVariants.{Single, Range, Stepped, Inverse, Interleaved}
use Rattle.frame_range.specs.Number.{value_from, negative}

-- at least one digit, and nothing but digits
pub record IsDigits (text : List ℕ) : Type 0 where
  pub some : 0 < length text
  pub digits : all_ascii_digits text ≡ true

-- digits that spell the number, or a minus sign (byte 45) and digits that spell its opposite
abbrev pub IsNumber : List ℕ → ℤ → Type 0
IsNumber text z =
    (digits : List ℕ) × IsDigits digits
    × (((text ≡ digits) × (z ≡ pos (value_from 0 digits))) ⊎ ((text ≡ 45 ∷ digits) × (z ≡ negative (value_from 0 digits))))

-- two numbers with a dash between them, a mark and a third one
abbrev pub IsMarked : ℕ → List ℕ → ℤ → ℤ → ℤ → Type 0
IsMarked mark text first last step =
    (x y z : List ℕ) × IsNumber x first × IsNumber y last × IsNumber z step × (text ≡ x ++ 45 ∷ (y ++ mark ∷ z))

-- the five forms: `A`, `A-B`, `A-BxN`, `A-ByN` and `A-B:N`
abbrev pub IsForm : List ℕ → Section → Type 0
IsForm text (Single number) = IsNumber text number
IsForm text (Range first last) = (x y : List ℕ) × IsNumber x first × IsNumber y last × (text ≡ x ++ 45 ∷ y)
IsForm text (Stepped first last step) = IsMarked 120 text first last step
IsForm text (Inverse first last step) = IsMarked 121 text first last step
IsForm text (Interleaved first last step) = IsMarked 58 text first last step

-- a form with spaces (byte 32) before and after it
abbrev pub Spells : List ℕ → Section → Type 0
Spells text s = (before after : ℕ) × (form : List ℕ) × IsForm form s × (text ≡ replicate before 32 ++ (form ++ replicate after 32))
