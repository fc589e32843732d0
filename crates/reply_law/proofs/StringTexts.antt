-- The content of a string in a text that is UTF-8 is UTF-8.
use Rattle.std.proofs.Common.{◌≡◌, ◌≤◌, ◌<◌, ℕ, suc, ◌+◌, ◌*◌, Bool, true, false, cond, ◌&&◌, ◌||◌, ◌==◌, nat_lt, nat_le, List, [], ◌∷◌, ◌++◌, length, take, drop, get_or, Option, Some, None, option_and_then, refl, ap, sym, subst, ◌∙◌, arith, IsUtf8}
use Rattle.std.specs.Char.{digit_value, encode_utf8, is_digit}
use Rattle.std.proofs.Math.Utf8.{scalar}
use Rattle.std.proofs.lemmas.Bool.{and_parts, eqb-true, ltb-true, leb-true}
use Rattle.std.proofs.lemmas.List.{append-nil, append_assoc}
use Rattle.std.proofs.lemmas.Option.{none-some, same_Some}
use Rattle.std.proofs.lemmas.Str.{IsCharBoundary-after_ascii, IsCharBoundary-before_ascii, IsUtf8-append, IsUtf8-drop, IsUtf8-encode, IsUtf8-take, encode_ascii}
use Rattle.json.specs.Text.{Within, after_backslash, after_high, after_u, code_unit, content, is_high_surrogate, is_low_surrogate, plain, prepend, short_escape, surrogate_pair}

-- ---- texts cut at a byte of ASCII

byte_at : (p : List ℕ) (a : ℕ) (ys : List ℕ) → get_or (p ++ a ∷ ys) (length p) 0 ≡ a
byte_at [] a ys = refl
byte_at (x ∷ p) a ys = byte_at p a ys

front_of : (p ys : List ℕ) → take (length p) (p ++ ys) ≡ p
front_of [] ys = refl
front_of (x ∷ p) ys = ap (λ (xs : List ℕ). x ∷ xs) (front_of p ys)

rest_of : (p : List ℕ) (a : ℕ) (ys : List ℕ) → drop (suc (length p)) (p ++ a ∷ ys) ≡ ys
rest_of [] a ys = refl
rest_of (x ∷ p) a ys = rest_of p a ys

long_enough : (p : List ℕ) (a : ℕ) (ys : List ℕ) → length p < length (p ++ a ∷ ys)
long_enough [] a ys = omega arith
long_enough (x ∷ p) a ys = omega (arith, long_enough p a ys)

pub cut_at : (p : List ℕ) (a : ℕ) (ys : List ℕ) → a < 128 → IsUtf8 (p ++ a ∷ ys) → IsUtf8 p × IsUtf8 ys
cut_at p a ys low text =
    let whole = p ++ a ∷ ys in
    let byte : get_or whole (length p) 0 < 128 = subst (λ (b : ℕ). b < 128) (sym (byte_at p a ys)) low in
    let next : length p + 1 ≡ suc (length p) = omega arith in
    let before : IsUtf8 (take (length p) whole) = IsUtf8-take whole (length p) text (IsCharBoundary-before_ascii whole (length p) (long_enough p a ys) byte) in
    let behind : IsUtf8 (drop (length p + 1) whole) = IsUtf8-drop whole (length p + 1) text (IsCharBoundary-after_ascii whole (length p) text (long_enough p a ys) byte) in
    (subst IsUtf8 (front_of p (a ∷ ys)) before, subst IsUtf8 (ap (λ (n : ℕ). drop n whole) next ∙ rest_of p a ys) behind)

ascii_text : (c : ℕ) → c < 128 → IsUtf8 (c ∷ [])
ascii_text c low = subst IsUtf8 (encode_ascii c low) (IsUtf8-encode c (low_code c low))
  where
    low_code : (c : ℕ) → c < 128 → scalar c ≡ true
    low_code c low = Rattle.std.proofs.Math.Utf8.low_scalar c (omega (arith, low))

-- ---- escapes

-- hex digits are ASCII
digit_low : (c : ℕ) → is_digit c 16 ≡ true → c < 128
digit_low c h = grind (arith, ltb-true (digit_value c) 16 h)

value_low : (c : ℕ) → is_digit c 16 ≡ true → digit_value c < 16
value_low c h = ltb-true (digit_value c) 16 h

record Unit4 (a b c d u : ℕ) : Type 0 where
  first : a < 128
  second : b < 128
  third : c < 128
  fourth : d < 128
  within : u < 65536

unit_by : (a b c d u value : ℕ) (t : Bool) → (is_digit a 16 && is_digit b 16 && is_digit c 16 && is_digit d 16) ≡ t
    → value ≡ digit_value a * 4096 + digit_value b * 256 + digit_value c * 16 + digit_value d → cond t (Some value) None ≡ Some u → Unit4 a b c d u
unit_by a b c d u value false is sum made = absurd (none-some u made)
unit_by a b c d u value true is sum made =
    let one = and_parts (is_digit a 16 && is_digit b 16 && is_digit c 16) (is_digit d 16) is in
    let two = and_parts (is_digit a 16 && is_digit b 16) (is_digit c 16) one.0 in
    let three = and_parts (is_digit a 16) (is_digit b 16) two.0 in
    let same : value ≡ u = same_Some value u made in
    record {
      first = digit_low a three.0;
      second = digit_low b three.1;
      third = digit_low c two.1;
      fourth = digit_low d one.1;
      within = omega (arith, value_low a three.0, value_low b three.1, value_low c two.1, value_low d one.1, sum, same);
    }

unit_of : (a b c d u : ℕ) → code_unit a b c d ≡ Some u → Unit4 a b c d u
unfolding code_unit
unit_of a b c d u made =
    unit_by a b c d u (digit_value a * 4096 + digit_value b * 256 + digit_value c * 16 + digit_value d)
    (is_digit a 16 && is_digit b 16 && is_digit c 16 && is_digit d 16) refl refl made

-- after four bytes of ASCII
past_four : (a b c d u : ℕ) (rest : List ℕ) → Unit4 a b c d u → IsUtf8 (a ∷ b ∷ c ∷ d ∷ rest) → IsUtf8 rest
past_four a b c d u rest unit text =
    let one = cut_at [] a (b ∷ c ∷ d ∷ rest) unit.first text in
    let two = cut_at [] b (c ∷ d ∷ rest) unit.second one.1 in
    let three = cut_at [] c (d ∷ rest) unit.third two.1 in
    (cut_at [] d rest unit.fourth three.1).1

record IsShort (x c : ℕ) : Type 0 where
  from : x < 128
  to : c < 128

short_by : (x c k v : ℕ) (b : Bool) (rest : Option ℕ) → (x == k) ≡ b → k < 128 → v < 128 → (rest ≡ Some c → IsShort x c) → cond b (Some v) rest ≡ Some c → IsShort x c
short_by x c k v true rest is low to later made =
    let here = eqb-true x k is in
    let same = same_Some v c made in
    record { from = omega (arith, here, low); to = omega (arith, same, to) }
short_by x c k v false rest is low to later made = later made

same_by : (x c : ℕ) (q s t : Bool) (rest : Option ℕ) → (x == 34) ≡ q → (x == 92) ≡ s → (x == 47) ≡ t → (rest ≡ Some c → IsShort x c) → cond ((q || s) || t) (Some x) rest ≡ Some c → IsShort x c
same_by x c true s t rest is_q is_s is_t later made = let here = eqb-true x 34 is_q in let same = same_Some x c made in record { from = omega (arith, here); to = omega (arith, here, same) }
same_by x c false true t rest is_q is_s is_t later made = let here = eqb-true x 92 is_s in let same = same_Some x c made in record { from = omega (arith, here); to = omega (arith, here, same) }
same_by x c false false true rest is_q is_s is_t later made = let here = eqb-true x 47 is_t in let same = same_Some x c made in record { from = omega (arith, here); to = omega (arith, here, same) }
same_by x c false false false rest is_q is_s is_t later made = later made

short_of : (x c : ℕ) → short_escape x ≡ Some c → IsShort x c
unfolding short_escape
short_of x c made =
    same_by x c (x == 34) (x == 92) (x == 47) _ refl refl refl
    (short_by x c 98 8 (x == 98) _ refl (omega arith) (omega arith)
    (short_by x c 102 12 (x == 102) _ refl (omega arith) (omega arith)
    (short_by x c 110 10 (x == 110) _ refl (omega arith) (omega arith)
    (short_by x c 114 13 (x == 114) _ refl (omega arith) (omega arith)
    (short_by x c 116 9 (x == 116) None refl (omega arith) (omega arith) (λ none. absurd (none-some c none)))))))
    made

-- ---- characters

high_scalar : (c : ℕ) → 57344 ≤ c → c < 1114112 → scalar c ≡ true
high_scalar c low high = grind arith

char_text : (c : ℕ) → scalar c ≡ true → IsUtf8 (encode_utf8 c)
unfolding encode_utf8
char_text c is = IsUtf8-encode c is

plain_unit : (u : ℕ) → u < 65536 → is_high_surrogate u ≡ false → is_low_surrogate u ≡ false → scalar u ≡ true
plain_unit u within high low = grind arith

pair_scalar : (h l : ℕ) → is_high_surrogate h ≡ true → is_low_surrogate l ≡ true → scalar (surrogate_pair h l) ≡ true
pair_scalar h l high low =
    let first = and_parts (nat_le 0xd800 h) (nat_lt h 0xdc00) high in
    let second = and_parts (nat_le 0xdc00 l) (nat_lt l 0xe000) low in
    let from = leb-true 0xd800 h first.0 in
    let to = ltb-true h 0xdc00 first.1 in
    let from_low = leb-true 0xdc00 l second.0 in
    let to_low = ltb-true l 0xe000 second.1 in
    high_scalar (surrogate_pair h l) (omega (arith, from, to, from_low, to_low)) (omega (arith, from, to, from_low, to_low))

-- ---- the content

-- what was read behind some bytes
prepended : (bytes : List ℕ) (o : Option (List ℕ)) (s : List ℕ) → prepend bytes o ≡ Some s → (t : List ℕ) × (o ≡ Some t) × (bytes ++ t ≡ s)
prepended bytes None s is = absurd (none-some s is)
prepended bytes (Some t) s is = (t, refl, same_Some (bytes ++ t) s is)

-- what is read in a mode of a text that is UTF-8, is UTF-8: behind what was read already, where characters may be half read
abbrev Reads : Within → List ℕ → List ℕ → Type 0
Reads plain xs s = (p : List ℕ) → IsUtf8 (p ++ xs) → IsUtf8 (p ++ s)
Reads after_backslash xs s = IsUtf8 xs → IsUtf8 s
Reads after_u xs s = IsUtf8 xs → IsUtf8 s
Reads (after_high h) xs s = is_high_surrogate h ≡ true → IsUtf8 xs → IsUtf8 s

plain_by : (x : ℕ) (xs s : List ℕ) (q b low : Bool) → (x == 34) ≡ q → (x == 92) ≡ b → ((t : List ℕ) → content after_backslash xs ≡ Some t → Reads after_backslash xs t)
    → ((t : List ℕ) → content plain xs ≡ Some t → Reads plain xs t)
    → cond q (Some []) (cond b (content after_backslash xs) (cond low None (prepend (x ∷ []) (content plain xs)))) ≡ Some s → Reads plain (x ∷ xs) s
plain_by x xs s true b low is_q is_b escape next is p text =
    let none : [] ≡ s = same_Some [] s is in
    let here = eqb-true x 34 is_q in
    subst (λ (t : List ℕ). IsUtf8 (p ++ t)) none (subst IsUtf8 (sym (append-nil p)) (cut_at p x xs (omega (arith, here)) text).0)
plain_by x xs s false true low is_q is_b escape next is p text =
    let here = eqb-true x 92 is_b in
    let cut = cut_at p x xs (omega (arith, here)) text in
    IsUtf8-append p s cut.0 (escape s is cut.1)
plain_by x xs s false false true is_q is_b escape next is p text = absurd (none-some s is)
plain_by x xs s false false false is_q is_b escape next is p text =
    let later = prepended (x ∷ []) (content plain xs) s is in
    let joined : IsUtf8 ((p ++ x ∷ []) ++ later.0) = next later.0 later.1 (p ++ x ∷ []) (subst IsUtf8 (sym (append_assoc p (x ∷ []) xs)) text) in
    subst (λ (t : List ℕ). IsUtf8 (p ++ t)) later.2 (subst IsUtf8 (append_assoc p (x ∷ []) later.0) joined)

escape_by : (x : ℕ) (xs s : List ℕ) (u : Bool) → (x == 117) ≡ u → ((t : List ℕ) → content after_u xs ≡ Some t → Reads after_u xs t) → ((t : List ℕ) → content plain xs ≡ Some t → Reads plain xs t)
    → (o : Option ℕ) → short_escape x ≡ o → cond u (content after_u xs) (option_and_then (λ c. prepend (c ∷ []) (content plain xs)) o) ≡ Some s → IsUtf8 (x ∷ xs) → IsUtf8 s
escape_by x xs s true is_u unit next o short is text =
    let here = eqb-true x 117 is_u in
    unit s is (cut_at [] x xs (omega (arith, here)) text).1
escape_by x xs s false is_u unit next None short is text = absurd (none-some s is)
escape_by x xs s false is_u unit next (Some c) short is text =
    let low = short_of x c short in
    let later = prepended (c ∷ []) (content plain xs) s is in
    subst IsUtf8 later.2 (IsUtf8-append (c ∷ []) later.0 (ascii_text c low.to) (next later.0 later.1 [] (cut_at [] x xs low.from text).1))

unit_read : (a b c d : ℕ) (xs s : List ℕ) (o : Option ℕ) → code_unit a b c d ≡ o → ((u : ℕ) (t : List ℕ) → content (after_high u) xs ≡ Some t → Reads (after_high u) xs t)
    → ((t : List ℕ) → content plain xs ≡ Some t → Reads plain xs t)
    → option_and_then (λ u. cond (is_high_surrogate u) (content (after_high u) xs) (cond (is_low_surrogate u) None (prepend (encode_utf8 u) (content plain xs)))) o ≡ Some s
    → IsUtf8 (a ∷ b ∷ c ∷ d ∷ xs) → IsUtf8 s
unit_read a b c d xs s None made pair next is text = absurd (none-some s is)
unit_read a b c d xs s (Some u) made pair next is text = by (is_high_surrogate u) (is_low_surrogate u) refl refl is
  where
    unit : Unit4 a b c d u
    unit = unit_of a b c d u made

    rest : IsUtf8 xs
    rest = past_four a b c d u xs unit text

    by : (high low : Bool) → is_high_surrogate u ≡ high → is_low_surrogate u ≡ low → cond high (content (after_high u) xs) (cond low None (prepend (encode_utf8 u) (content plain xs))) ≡ Some s → IsUtf8 s
    by true low is_high is_low is = pair u s is is_high rest
    by false true is_high is_low is = absurd (none-some s is)
    by false false is_high is_low is =
        let later = prepended (encode_utf8 u) (content plain xs) s is in
        subst IsUtf8 later.2 (IsUtf8-append (encode_utf8 u) later.0 (char_text u (plain_unit u unit.within is_high is_low)) (next later.0 later.1 [] rest))

pair_read : (h s1 u a b c d : ℕ) (xs s : List ℕ) (t : Bool) → ((s1 == 92) && (u == 117)) ≡ t → is_high_surrogate h ≡ true → (o : Option ℕ) → code_unit a b c d ≡ o
    → ((t : List ℕ) → content plain xs ≡ Some t → Reads plain xs t)
    → cond t (option_and_then (λ l. cond (is_low_surrogate l) (prepend (encode_utf8 (surrogate_pair h l)) (content plain xs)) None) o) None ≡ Some s
    → IsUtf8 (s1 ∷ u ∷ a ∷ b ∷ c ∷ d ∷ xs) → IsUtf8 s
pair_read h s1 u a b c d xs s false is high o made next read text = absurd (none-some s read)
pair_read h s1 u a b c d xs s true is high None made next read text = absurd (none-some s read)
pair_read h s1 u a b c d xs s true is high (Some l) made next read text = by (is_low_surrogate l) refl read
  where
    rest : IsUtf8 xs
    rest =
        let both = and_parts (s1 == 92) (u == 117) is in
        let slash = eqb-true s1 92 both.0 in
        let letter = eqb-true u 117 both.1 in
        let one = cut_at [] s1 (u ∷ a ∷ b ∷ c ∷ d ∷ xs) (omega (arith, slash)) text in
        let two = cut_at [] u (a ∷ b ∷ c ∷ d ∷ xs) (omega (arith, letter)) one.1 in
        past_four a b c d l xs (unit_of a b c d l made) two.1

    by : (low : Bool) → is_low_surrogate l ≡ low → cond low (prepend (encode_utf8 (surrogate_pair h l)) (content plain xs)) None ≡ Some s → IsUtf8 s
    by false is_low read = absurd (none-some s read)
    by true is_low read =
        let later = prepended (encode_utf8 (surrogate_pair h l)) (content plain xs) s read in
        subst IsUtf8 later.2 (IsUtf8-append (encode_utf8 (surrogate_pair h l)) later.0 (char_text (surrogate_pair h l) (pair_scalar h l high is_low)) (next later.0 later.1 [] rest))

-- what is read in each mode
content_reads : (w : Within) (xs s : List ℕ) → content w xs ≡ Some s → Reads w xs s
unfolding content
content_reads plain [] s is = absurd (none-some s is)
content_reads plain (x ∷ xs) s is =
    plain_by x xs s (x == 34) (x == 92) (nat_lt x 32) refl refl (λ t read. content_reads after_backslash xs t read) (λ t read. content_reads plain xs t read) is
content_reads after_backslash [] s is = absurd (none-some s is)
content_reads after_backslash (x ∷ xs) s is =
    escape_by x xs s (x == 117) refl (λ t read. content_reads after_u xs t read) (λ t read. content_reads plain xs t read) (short_escape x) refl is
content_reads after_u [] s is = absurd (none-some s is)
content_reads after_u (a ∷ []) s is = absurd (none-some s is)
content_reads after_u (a ∷ b ∷ []) s is = absurd (none-some s is)
content_reads after_u (a ∷ b ∷ c ∷ []) s is = absurd (none-some s is)
content_reads after_u (a ∷ b ∷ c ∷ d ∷ xs) s is =
    unit_read a b c d xs s (code_unit a b c d) refl (λ u t read. content_reads (after_high u) xs t read) (λ t read. content_reads plain xs t read) is
content_reads (after_high h) [] s is = absurd (none-some s is)
content_reads (after_high h) (x ∷ []) s is = absurd (none-some s is)
content_reads (after_high h) (x ∷ u ∷ []) s is = absurd (none-some s is)
content_reads (after_high h) (x ∷ u ∷ a ∷ []) s is = absurd (none-some s is)
content_reads (after_high h) (x ∷ u ∷ a ∷ b ∷ []) s is = absurd (none-some s is)
content_reads (after_high h) (x ∷ u ∷ a ∷ b ∷ c ∷ []) s is = absurd (none-some s is)
content_reads (after_high h) (x ∷ u ∷ a ∷ b ∷ c ∷ d ∷ xs) s is =
    λ high text. pair_read h x u a b c d xs s ((x == 92) && (u == 117)) refl high (code_unit a b c d) refl (λ t read. content_reads plain xs t read) is text

pub content_text : (xs s : List ℕ) → IsUtf8 xs → content plain xs ≡ Some s → IsUtf8 s
content_text xs s text is = content_reads plain xs s is [] text
