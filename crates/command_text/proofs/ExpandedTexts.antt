-- A command that is UTF-8 is so once its tokens are replaced.
use Rattle.std.proofs.Common.{◌≡◌, ℕ, zero, suc, ℤ, ◌+◌, ◌<◌, ◌≤◌, Bool, true, false, cond, List, [], ◌∷◌, ◌++◌, length, length-append, append-nil, take, drop, length-drop, get_or, Option, Some, None, refl, sym, ap, subst, ◌∙◌, arith, IsUtf8}
use Rattle.std.specs.Prelude.{codes}
use Rattle.std.specs.Char.{encode_utf8}
use Rattle.std.specs.Fmt.{signed_decimal}
use Rattle.std.specs.Cmp.Derive.{both_true}
use Rattle.std.specs.Str.{is_utf8}
use Rattle.std.proofs.lemmas.Bool.{and_parts}
use Rattle.std.proofs.lemmas.List.{take-append-drop}
use Rattle.std.proofs.lemmas.Option.{none-some, same_Some}
use Rattle.std.proofs.lemmas.Slice.Eq.{bytes_eq-Decides}
use Rattle.std.proofs.lemmas.Str.{IsCharBoundary-after_ascii, IsUtf8-append, IsUtf8-drop, IsUtf8-from_is_utf8, IsUtf8-nil, is_utf8-from_IsUtf8, length-encode, len_utf8_bounds}
use lib.Utf8.{encodes, scalar, scalars}
use Rattle.farm_types.specs.Names.{Token, expanded, expanded_from, four_places, frame_name, starts_with, token_at}
use Rattle.farm_types.proofs.Utf8.{ascii_utf8}
use Rattle.farm_types.proofs.NumberTexts.{places_ascii, signed_ascii}
use Rattle.command_text.proofs.Pieces.{char_first, token_first}

-- what follows a word at the front that ends with `#`
after_word : (word text : List ℕ) (last : ℕ) → length word ≡ last + 1 → ((rest : List ℕ) → get_or (word ++ rest) last 0 ≡ 35) → starts_with word text ≡ true → IsUtf8 text → IsUtf8 (drop (last + 1) text)
after_word word text last long ends begins utf8 =
    let front : take (length word) text ≡ word = (bytes_eq-Decides (take (length word) text) word).0 begins in
    let whole : word ++ drop (length word) text ≡ text = ap (λ (xs : List ℕ). xs ++ drop (length word) text) (sym front) ∙ take-append-drop (length word) text in
    let low : get_or text last 0 ≡ 35 = subst (λ (xs : List ℕ). get_or xs last 0 ≡ 35) whole (ends (drop (length word) text)) in
    let size : length text ≡ length word + length (drop (length word) text) = sym (ap length whole) ∙ length-append word (drop (length word) text) in
    IsUtf8-drop text (last + 1) utf8 (IsCharBoundary-after_ascii text last utf8 (omega (arith, size, long)) (omega (arith, low)))

module _ (job layer : List ℕ) (number : ℤ) (own : IsUtf8 job) (in_layer : IsUtf8 layer) where
  -- what stands in the token's place, and what follows it
  record IsReplaced (text : List ℕ) (token : Token) : Type 0 where
    sized : 0 < token.size
    written : IsUtf8 token.text
    follows : IsUtf8 (drop token.size text)

  placed : IsUtf8 (four_places number)
  placed = IsUtf8-from_is_utf8 (four_places number) (ascii_utf8 (four_places number) (places_ascii number))

  plain : IsUtf8 (signed_decimal number)
  plain = IsUtf8-from_is_utf8 (signed_decimal number) (ascii_utf8 (signed_decimal number) (signed_ascii number))

  framed : IsUtf8 (frame_name number layer)
  framed = IsUtf8-append (four_places number) (45 ∷ layer) placed (IsUtf8-append (45 ∷ []) layer (IsUtf8-from_is_utf8 (45 ∷ []) (ascii_utf8 (45 ∷ []) refl)) in_layer)

  replaced : (text : List ℕ) → IsUtf8 text → (token : Token) → token_at job layer number text ≡ Some token → IsReplaced text token
  replaced text utf8 token =
      by (starts_with (codes "#ZFRAME#") text) (starts_with (codes "#IFRAME#") text) (starts_with (codes "#LAYER#") text) (starts_with (codes "#JOB#") text) (starts_with (codes "#FRAME#") text) refl refl refl refl refl
    where
      by : (z i l j f : Bool) → starts_with (codes "#ZFRAME#") text ≡ z → starts_with (codes "#IFRAME#") text ≡ i → starts_with (codes "#LAYER#") text ≡ l → starts_with (codes "#JOB#") text ≡ j
          → starts_with (codes "#FRAME#") text ≡ f
          → cond z (Some (record { size = 8; text = four_places number })) (cond i (Some (record { size = 8; text = signed_decimal number })) (cond l (Some (record { size = 7; text = layer }))
          (cond j (Some (record { size = 5; text = job })) (cond f (Some (record { size = 7; text = frame_name number layer })) None)))) ≡ Some token
          → IsReplaced text token
      by true i l j f z_is i_is l_is j_is f_is is =
          subst (IsReplaced text) (same_Some _ token is) (record { sized = omega arith; written = placed; follows = after_word (codes "#ZFRAME#") text 7 refl (λ rest. refl) z_is utf8 })
      by false true l j f z_is i_is l_is j_is f_is is =
          subst (IsReplaced text) (same_Some _ token is) (record { sized = omega arith; written = plain; follows = after_word (codes "#IFRAME#") text 7 refl (λ rest. refl) i_is utf8 })
      by false false true j f z_is i_is l_is j_is f_is is =
          subst (IsReplaced text) (same_Some _ token is) (record { sized = omega arith; written = in_layer; follows = after_word (codes "#LAYER#") text 6 refl (λ rest. refl) l_is utf8 })
      by false false false true f z_is i_is l_is j_is f_is is =
          subst (IsReplaced text) (same_Some _ token is) (record { sized = omega arith; written = own; follows = after_word (codes "#JOB#") text 4 refl (λ rest. refl) j_is utf8 })
      by false false false false true z_is i_is l_is j_is f_is is =
          subst (IsReplaced text) (same_Some _ token is) (record { sized = omega arith; written = framed; follows = after_word (codes "#FRAME#") text 6 refl (λ rest. refl) f_is utf8 })
      by false false false false false z_is i_is l_is j_is f_is is = absurd (none-some token is)

  -- from so many bytes at most
  expanded_few : (most : ℕ) (text : List ℕ) → length text ≤ most → IsUtf8 text → IsUtf8 (expanded_from 0 job layer number text)
  expanded_few most [] few utf8 = IsUtf8-nil
  expanded_few zero (b ∷ bs) few utf8 = absurd (omega (arith, few))
  expanded_few (suc most) (b ∷ bs) few utf8 = by (token_at job layer number (b ∷ bs)) refl utf8 (λ rest less. expanded_few most rest (omega (arith, less, few)))
    where
      by_char : (cs : List ℕ) → scalars cs ≡ true → encodes cs ≡ b ∷ bs → token_at job layer number (b ∷ bs) ≡ None
          → ((rest : List ℕ) → length rest < length (b ∷ bs) → IsUtf8 rest → IsUtf8 (expanded_from 0 job layer number rest)) → IsUtf8 (expanded_from 0 job layer number (b ∷ bs))
      by_char [] valid is none later = let empty : 0 ≡ suc (length bs) = ap length is in absurd (omega (arith, empty))
      by_char (c ∷ cs) valid is none later =
          let parts = and_parts (scalar c) (scalars cs) valid in
          let rest = encodes cs in
          let first : IsUtf8 (encode_utf8 c) = (c ∷ [], (both_true parts.0 refl, append-nil (encode_utf8 c))) in
          let long : length (b ∷ bs) ≡ length (encode_utf8 c) + length rest = sym (ap length is) ∙ length-append (encode_utf8 c) rest in
          let some : 1 ≤ length (encode_utf8 c) = omega (arith, length-encode c, (len_utf8_bounds c).0) in
          let all : expanded_from 0 job layer number (encode_utf8 c ++ rest) ≡ encode_utf8 c ++ expanded_from 0 job layer number rest =
          char_first job layer number c rest (subst (λ (xs : List ℕ). token_at job layer number xs ≡ None) (sym is) none) in
          subst (λ (xs : List ℕ). IsUtf8 (expanded_from 0 job layer number xs)) is
          (subst IsUtf8 (sym all) (IsUtf8-append (encode_utf8 c) (expanded_from 0 job layer number rest) first (later rest (omega (arith, long, some)) (cs, (parts.1, refl)))))

      by : (found : Option Token) → token_at job layer number (b ∷ bs) ≡ found → IsUtf8 (b ∷ bs)
          → ((rest : List ℕ) → length rest < length (b ∷ bs) → IsUtf8 rest → IsUtf8 (expanded_from 0 job layer number rest)) → IsUtf8 (expanded_from 0 job layer number (b ∷ bs))
      by None none text later = by_char text.0 text.1.0 text.1.1 none later
      by (Some token) is text later =
          let t = replaced (b ∷ bs) text token is in
          let shorter : length (drop token.size (b ∷ bs)) < length (b ∷ bs) = omega (arith, length-drop token.size (b ∷ bs), t.sized) in
          subst IsUtf8 (sym (token_first job layer number token (b ∷ bs) is t.sized (omega arith)))
          (IsUtf8-append token.text (expanded_from 0 job layer number (drop token.size (b ∷ bs))) t.written (later (drop token.size (b ∷ bs)) shorter t.follows))

pub expanded_text : (command job layer : List ℕ) (number : ℤ) → is_utf8 command ≡ true → is_utf8 job ≡ true → is_utf8 layer ≡ true → is_utf8 (expanded command job layer number) ≡ true
expanded_text command job layer number text own in_layer =
    is_utf8-from_IsUtf8 (expanded command job layer number)
    (expanded_few job layer number (IsUtf8-from_is_utf8 job own) (IsUtf8-from_is_utf8 layer in_layer) (length command) command (omega arith) (IsUtf8-from_is_utf8 command text))
