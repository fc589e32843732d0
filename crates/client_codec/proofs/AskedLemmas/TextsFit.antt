-- Texts, names, tags and ranges are UTF-8.
use Rattle.std.proofs.Common.{◌≡◌, ℕ, true, inl, inr, length, List, [], ◌∷◌, IsUtf8, refl, arith}
use Rattle.std.specs.Prelude.{nat_eq}
use Rattle.std.proofs.lemmas.Bool.{eqb-true, or_cases}
use Rattle.std.proofs.lemmas.Str.{IsUtf8-from_is_utf8}
use Rattle.json.proofs.Printed.Utf8.{IsUtf8-are_ascii}
use Rattle.farm_types.specs.Forms.{is_name_or_empty, is_name_text, is_tag_text}
use Rattle.farm_types.specs.Ranges.{is_range_text}
use Rattle.farm_types.proofs.Ranges.{range_utf8}
use Rattle.farm_types.proofs.Utf8.{name_utf8, tag_utf8}
use Rattle.farm_lines.specs.FormedLines.{IsName, IsText}

pub text_fits : (text : List ℕ) → IsText text → IsUtf8 text
text_fits text h = IsUtf8-from_is_utf8 text h

pub name_fits : (text : List ℕ) → IsName text → IsUtf8 text
name_fits text h = IsUtf8-from_is_utf8 text (name_utf8 text h)

pub tag_fits : (text : List ℕ) → is_tag_text text ≡ true → IsUtf8 text
tag_fits text h = IsUtf8-from_is_utf8 text (tag_utf8 text h)

pub range_fits : (text : List ℕ) → is_range_text text ≡ true → IsUtf8 text
range_fits text h = IsUtf8-from_is_utf8 text (range_utf8 text h)

empty_fits : (text : List ℕ) → length text ≡ 0 → IsUtf8 text
empty_fits [] h = IsUtf8-are_ascii [] refl
empty_fits (b ∷ bs) h = absurd (omega (arith, h))

pub name_or_empty_fits : (text : List ℕ) → is_name_or_empty text ≡ true → IsUtf8 text
name_or_empty_fits text h = elim (or_cases (nat_eq (length text) 0) (is_name_text text) h) [
  | inl none ↦ empty_fits text (eqb-true (length text) 0 none)
  | inr name ↦ name_fits text name
]
