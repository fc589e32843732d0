-- Texts that are UTF-8: names, decimals, and names of frames and of allocations.
use Rattle.std.proofs.Common.{◌≡◌, ℕ, suc, ℤ, ◌+◌, ◌||◌, Bool, true, false, eqb, List, [], ◌∷◌, ◌++◌, length, length-append, inl, inr, refl, ◌∙◌, arith}
use Rattle.std.specs.Prelude.{decimal, nat_eq}
use Rattle.std.specs.List.{list_all}
use Rattle.std.specs.Cmp.Derive.{both_true}
use Rattle.std.proofs.lemmas.Bool.{eqb-true, le-leb, or_cases}
use Rattle.std.proofs.lemmas.List.Folds.{list_all-append}
use Rattle.std.proofs.lemmas.Str.{IsUtf8-append, IsUtf8-from_is_utf8, is_utf8-from_IsUtf8}
use Rattle.farm_types.specs.Farm.{alloc_name}
use Rattle.farm_types.specs.Forms.{is_between, is_letter_or_digit, is_name_byte, is_name_or_empty, is_name_text, is_tag_byte, is_tag_text}
use Rattle.farm_types.specs.Limits.{IsBetween}
use Rattle.farm_types.specs.Names.{four_places, frame_name}
use Rattle.farm_types.specs.declared.limits.TheConstants.{MOST_NAME, MOST_TAG}
use Rattle.farm_types.proofs.Lists.{and_both}
use Rattle.farm_types.proofs.Utf8.{ascii_utf8, name_utf8}
use Rattle.farm_types.proofs.NumberTexts.{decimal_ascii, places_ascii}
use Rattle.farm_lines.specs.FormedLines.{IsName, IsText}
use Rattle.farm_law.proofs.FormedParts.{between_is}

-- ---- decimals and names of frames

pub decimal_text : (n : ℕ) → IsText (decimal n)
decimal_text n = ascii_utf8 (decimal n) (decimal_ascii n)

pub empty_text : IsText []
empty_text = ascii_utf8 [] refl

-- texts one after the other
pub joined_text : (xs ys : List ℕ) → IsText xs → IsText ys → IsText (xs ++ ys)
joined_text xs ys first second = is_utf8-from_IsUtf8 (xs ++ ys) (IsUtf8-append xs ys (IsUtf8-from_is_utf8 xs first) (IsUtf8-from_is_utf8 ys second))

pub name_text : (name : List ℕ) → IsName name → IsText name
name_text name named = name_utf8 name named

pub name_or_empty_text : (text : List ℕ) → is_name_or_empty text ≡ true → IsText text
name_or_empty_text text h = elim (or_cases (nat_eq (length text) 0) (is_name_text text) h) [
  | inl none ↦ none_text text (eqb-true (length text) 0 none)
  | inr name ↦ name_text text name
]
  where
    none_text : (bs : List ℕ) → length bs ≡ 0 → IsText bs
    none_text [] h = empty_text
    none_text (b ∷ bs) h = absurd (omega (arith, h))

pub frame_text : (number : ℤ) (layer : List ℕ) → IsText layer → IsText (frame_name number layer)
frame_text number layer text = joined_text (four_places number) (45 ∷ layer) (ascii_utf8 (four_places number) (places_ascii number)) (joined_text (45 ∷ []) layer (ascii_utf8 (45 ∷ []) refl) text)

-- ---- names of allocations

name_byte : (b : ℕ) → is_tag_byte b ≡ true → is_name_byte b ≡ true
name_byte b = by (is_letter_or_digit b) (eqb b 95) (eqb b 46) (eqb b 45)
  where
    by : (letter line point dash : Bool) → (letter || line || dash) ≡ true → (letter || line || point || dash) ≡ true
    by true line point dash h = refl
    by false true point dash h = refl
    by false false true dash h = refl
    by false false false dash h = h

name_bytes : (text : List ℕ) → list_all is_tag_byte text ≡ true → list_all is_name_byte text ≡ true
name_bytes [] all = refl
name_bytes (b ∷ bs) all = let parts = and_both (is_tag_byte b) (list_all is_tag_byte bs) all in both_true (name_byte b parts.0) (name_bytes bs parts.1)

-- a facility, a point and a tag are a name
pub alloc_name_is_name : (facility tag : List ℕ) → is_tag_text facility ≡ true → is_tag_text tag ≡ true → IsName (alloc_name facility tag)
alloc_name_is_name facility tag first second =
    let f = and_both (is_between 1 MOST_TAG (length facility)) (list_all is_tag_byte facility) first in
    let t = and_both (is_between 1 MOST_TAG (length tag)) (list_all is_tag_byte tag) second in
    let some : IsBetween 1 MOST_TAG (length facility) = between_is 1 MOST_TAG (length facility) f.0 in
    let few : IsBetween 1 MOST_TAG (length tag) = between_is 1 MOST_TAG (length tag) t.0 in
    let long : length (facility ++ 46 ∷ tag) ≡ length facility + suc (length tag) = length-append facility (46 ∷ tag) in
    let within : is_between 1 MOST_NAME (length (facility ++ 46 ∷ tag)) ≡ true = both_true (le-leb 1 (length (facility ++ 46 ∷ tag)) (omega (arith, long))) (le-leb (length (facility ++ 46 ∷ tag)) MOST_NAME (omega (arith, long, some.1, few.1))) in
    both_true within (list_all-append is_name_byte facility (46 ∷ tag) ∙ both_true (name_bytes facility f.1) (both_true refl (name_bytes tag t.1)))
