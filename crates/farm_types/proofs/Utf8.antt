-- Names and tags are ASCII, and so UTF-8.
use Rattle.std.proofs.Common.{◌≡◌, ◌<◌, ℕ, suc, zero, Bool, true, ◌||◌, leb, ltb, eqb, List, [], ◌∷◌, length, inl, inr, arith}
use Rattle.std.specs.List.{list_all, slice_index}
use Rattle.std.specs.Str.{is_utf8}
use Rattle.std.proofs.lemmas.Bool.{eqb-true, leb-true, lt-ltb, ltb-true, or_cases}
use Rattle.std.proofs.lemmas.Str.{IsUtf8-from_ascii, is_utf8-from_IsUtf8}
use Rattle.farm_types.specs.declared.limits.TheConstants.{MOST_NAME, MOST_TAG}
use Rattle.farm_types.specs.Forms.{is_between, is_letter_or_digit, is_name_byte, is_name_text, is_tag_byte, is_tag_text}
use Rattle.farm_types.proofs.Lists.{and_both, list_all-at, list_all-from_at}

-- ---- ASCII

abbrev pub is_ascii : ℕ → Bool
is_ascii b = ltb b 128

ascii_at : (text : List ℕ) → list_all is_ascii text ≡ true → (i : ℕ) → slice_index text i < 128
ascii_at [] all i = omega arith
ascii_at (b ∷ bs) all zero = ltb-true b 128 (and_both (is_ascii b) (list_all is_ascii bs) all).0
ascii_at (b ∷ bs) all (suc i) = ascii_at bs (and_both (is_ascii b) (list_all is_ascii bs) all).1 i

pub ascii_utf8 : (text : List ℕ) → list_all is_ascii text ≡ true → is_utf8 text ≡ true
ascii_utf8 text all = is_utf8-from_IsUtf8 text (IsUtf8-from_ascii text (ascii_at text all))

-- ---- the bytes of names and tags

either : {P : Type 0} (a b : Bool) → (a ≡ true → P) → (b ≡ true → P) → (a || b) ≡ true → P
either a b first second h = elim (or_cases a b h) [
  | inl x ↦ first x
  | inr y ↦ second y
]

between_below : (least most b : ℕ) → most < 128 → is_between least most b ≡ true → b < 128
between_below least most b small h = omega (arith, small, leb-true b most (and_both (leb least b) (leb b most) h).1)

is_below : (n b : ℕ) → n < 128 → eqb b n ≡ true → b < 128
is_below n b small h = omega (arith, small, eqb-true b n h)

letter_below : (b : ℕ) → is_letter_or_digit b ≡ true → b < 128
letter_below b =
    either (is_between 48 57 b || is_between 65 90 b) (is_between 97 122 b)
    (either (is_between 48 57 b) (is_between 65 90 b) (between_below 48 57 b (omega arith)) (between_below 65 90 b (omega arith))) (between_below 97 122 b (omega arith))

name_below : (b : ℕ) → is_name_byte b ≡ true → b < 128
name_below b =
    either (is_letter_or_digit b || eqb b 95 || eqb b 46) (eqb b 45)
    (either (is_letter_or_digit b || eqb b 95) (eqb b 46) (either (is_letter_or_digit b) (eqb b 95) (letter_below b) (is_below 95 b (omega arith))) (is_below 46 b (omega arith)))
    (is_below 45 b (omega arith))

tag_below : (b : ℕ) → is_tag_byte b ≡ true → b < 128
tag_below b =
    either (is_letter_or_digit b || eqb b 95) (eqb b 45) (either (is_letter_or_digit b) (eqb b 95) (letter_below b) (is_below 95 b (omega arith))) (is_below 45 b (omega arith))

all_ascii : (test : ℕ → Bool) → ((b : ℕ) → test b ≡ true → b < 128) → (text : List ℕ) → list_all test text ≡ true → list_all is_ascii text ≡ true
all_ascii test below text all = list_all-from_at is_ascii text (λ n b at. lt-ltb b 128 (below b (list_all-at test text n b all at)))

-- ---- names and tags

pub name_utf8 : (text : List ℕ) → is_name_text text ≡ true → is_utf8 text ≡ true
name_utf8 text h = ascii_utf8 text (all_ascii is_name_byte name_below text (and_both (is_between 1 MOST_NAME (length text)) (list_all is_name_byte text) h).1)

pub tag_utf8 : (text : List ℕ) → is_tag_text text ≡ true → is_utf8 text ≡ true
tag_utf8 text h = ascii_utf8 text (all_ascii is_tag_byte tag_below text (and_both (is_between 1 MOST_TAG (length text)) (list_all is_tag_byte text) h).1)
