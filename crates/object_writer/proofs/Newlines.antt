-- No JSON text has a newline within: the control bytes of its strings are escaped.
use Rattle.std.proofs.Common.{◌≡◌, ℕ, suc, zero, ◌<◌, ◌+◌, ◌/◌, ◌%◌, ◌==◌, ◌||◌, Bool, true, false, cond, List, [], ◌∷◌, ◌++◌, refl, sym, ◌∙◌, subst, pos, negsuc, arith}
use Rattle.std.specs.Prelude.{nat_lt}
use Rattle.std.specs.Char.{digit_char}
use Rattle.std.specs.Fmt.{digits, digits_onto, digit_glyph}
use Rattle.std.proofs.lemmas.Bool.{eqb-true}
use Rattle.std.proofs.lemmas.List.Folds.{list_any-append}
use Rattle.json.specs.Print.{escape_byte, escape_letter, escape, quoted}
use Rattle.serde_json.specs.Data.{Num, unsigned, negative, float, Data, null, boolean, number, string, array, object, Items, no_items, item, Members, no_members, member}
use Rattle.serde_json.specs.Written.{compact_text, items_text, members_text, comma_if, number_text}
use Rattle.std.specs.List.{list_any}

abbrev IsClean : List ℕ → Type 0
IsClean text = list_any (λ (b : ℕ). b == 10) text ≡ false

not_ten : (n : ℕ) → 10 < n → (n == 10) ≡ false
not_ten n h = grind arith

-- ---- pieces

clean_cons : (b : ℕ) (text : List ℕ) → (b == 10) ≡ false → IsClean text → IsClean (b ∷ text)
clean_cons b text h t = rw h t

clean_append : (xs ys : List ℕ) → IsClean xs → IsClean ys → IsClean (xs ++ ys)
clean_append xs ys x y = list_any-append (λ b. b == 10) xs ys ∙ rw (x, y) refl

-- ---- digits

glyph_clean : (upper : Bool) (d : ℕ) → (digit_glyph upper d == 10) ≡ false
glyph_clean upper d = by (nat_lt d 10) upper
  where
    by : (b u : Bool) → (cond b (48 + d) (cond u (55 + d) (87 + d)) == 10) ≡ false
    by true u = not_ten (48 + d) (omega arith)
    by false true = not_ten (55 + d) (omega arith)
    by false false = not_ten (87 + d) (omega arith)

digits_onto_clean : (k base : ℕ) (upper : Bool) (n : ℕ) (text : List ℕ) → IsClean text → IsClean (digits_onto k base upper n text)
digits_onto_clean zero base upper n text t = t
digits_onto_clean (suc k) base upper n text t =
    by (n / base == 0) (clean_cons _ text (glyph_clean upper (n % base)) t)
    (digits_onto_clean k base upper (n / base) (digit_glyph upper (n % base) ∷ text) (clean_cons _ text (glyph_clean upper (n % base)) t))
  where
    by : (b : Bool) → IsClean (digit_glyph upper (n % base) ∷ text) → IsClean (digits_onto k base upper (n / base) (digit_glyph upper (n % base) ∷ text))
        → IsClean (cond b (digit_glyph upper (n % base) ∷ text) (digits_onto k base upper (n / base) (digit_glyph upper (n % base) ∷ text)))
    by true last more = last
    by false last more = more

decimal_clean : (n : ℕ) → IsClean (digits 10 false n)
unfolding digits
decimal_clean n = digits_onto_clean 64 10 false n [] refl

number_clean : (n : Num) → IsClean (number_text n)
number_clean (unsigned n) = decimal_clean n
number_clean (negative (pos n)) = decimal_clean n
number_clean (negative (negsuc n)) = clean_cons 45 (digits 10 false (suc n)) refl (decimal_clean (suc n))
number_clean (float x) = refl

-- ---- strings

letter_clean : (x : ℕ) (a b c d e g : Bool) → (x == 10) ≡ false
    → (cond a x (cond b 98 (cond c 102 (cond d 110 (cond e 114 (cond g 116 0))))) == 10) ≡ false
letter_clean x true b c d e g h = h
letter_clean x false true c d e g h = refl
letter_clean x false false true d e g h = refl
letter_clean x false false false true e g h = refl
letter_clean x false false false false true g h = refl
letter_clean x false false false false false true h = refl
letter_clean x false false false false false false h = refl

char_clean : (d : ℕ) → (digit_char d == 10) ≡ false
char_clean d = by (nat_lt d 10)
  where
    by : (b : Bool) → (cond b (48 + d) (87 + d) == 10) ≡ false
    by true = not_ten (48 + d) (omega arith)
    by false = not_ten (87 + d) (omega arith)

-- a byte that isn't a newline, by its letter
other_clean : (x : ℕ) (short low : Bool) → (x == 10) ≡ false → (escape_letter x == 10) ≡ false
    → IsClean (cond short (92 ∷ escape_letter x ∷ []) (cond low (92 ∷ 117 ∷ 48 ∷ 48 ∷ digit_char (x / 16) ∷ digit_char (x % 16) ∷ []) (x ∷ [])))
other_clean x true low h l = clean_cons (escape_letter x) [] l refl
other_clean x false true h l = clean_cons (digit_char (x / 16)) (digit_char (x % 16) ∷ []) (char_clean (x / 16)) (clean_cons (digit_char (x % 16)) [] (char_clean (x % 16)) refl)
other_clean x false false h l = clean_cons x [] h refl

escape_byte_clean : (x : ℕ) → IsClean (escape_byte x)
unfolding escape_byte
escape_byte_clean x = by (x == 10) refl
  where
    by : (b : Bool) → b ≡ (x == 10) → IsClean (escape_byte x)
    by true e = subst (λ (n : ℕ). IsClean (escape_byte n)) (sym (eqb-true x 10 (sym e))) refl
    by false e =
        other_clean x (nat_lt 0 (escape_letter x)) (nat_lt x 32) (sym e)
        (letter_clean x ((x == 34) || (x == 92)) (x == 8) (x == 12) (x == 10) (x == 13) (x == 9) (sym e))

escape_clean : (text : List ℕ) → IsClean (escape text)
escape_clean [] = refl
escape_clean (b ∷ text) = clean_append (escape_byte b) (escape text) (escape_byte_clean b) (escape_clean text)

quoted_clean : (text : List ℕ) → IsClean (quoted text)
quoted_clean text = clean_cons 34 (escape text ++ 34 ∷ []) refl (clean_append (escape text) (34 ∷ []) (escape_clean text) refl)

-- ---- values

comma_clean : (later : Bool) → IsClean (comma_if later)
comma_clean true = refl
comma_clean false = refl

mutual
  compact_is_one_line : (d : Data) → IsClean (compact_text d)
  compact_is_one_line null = refl
  compact_is_one_line (boolean true) = refl
  compact_is_one_line (boolean false) = refl
  compact_is_one_line (number n) = number_clean n
  compact_is_one_line (string s) = quoted_clean s
  compact_is_one_line (array ds) = clean_cons 91 (items_text false ds) refl (items_clean false ds)
  compact_is_one_line (object ms) = clean_cons 123 (members_text false ms) refl (members_clean false ms)

  items_clean : (later : Bool) (ds : Items) → IsClean (items_text later ds)
  items_clean later no_items = refl
  items_clean later (item d ds) = clean_append (comma_if later) (compact_text d ++ items_text true ds) (comma_clean later) (clean_append (compact_text d) (items_text true ds) (compact_is_one_line d) (items_clean true ds))

  members_clean : (later : Bool) (ms : Members) → IsClean (members_text later ms)
  members_clean later no_members = refl
  members_clean later (member k d ms) =
      clean_append (comma_if later) (quoted k ++ 58 ∷ (compact_text d ++ members_text true ms)) (comma_clean later)
      (clean_append (quoted k) (58 ∷ (compact_text d ++ members_text true ms)) (quoted_clean k) (clean_cons 58 (compact_text d ++ members_text true ms) refl
      (clean_append (compact_text d) (members_text true ms) (compact_is_one_line d) (members_clean true ms))))

pub text_is_one_line : (d : Data) → list_any (λ (b : ℕ). b == 10) (compact_text d) ≡ false
text_is_one_line d = compact_is_one_line d
