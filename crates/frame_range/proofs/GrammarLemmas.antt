-- What is spelled is read.
use Rattle.std.proofs.Common.{◌≡◌, ℕ, zero, suc, ◌+◌, ◌<◌, List, [], ◌∷◌, ◌++◌, length, Bool, true, false, cond, refl, sym, ap, ◌∙◌, arith, take, drop, replicate, ⊎_elim, inl, inr}
use Rattle.std.specs.Prelude.{ℤ, pos, Option, Some, None, ◌||◌, ◌==◌, ◌⊎◌, slice_index}
use Rattle.std.specs.Char.{is_ascii_digit}
use Rattle.std.specs.Option.{option_map}
use Rattle.std.specs.List.{position, list_any}
use Rattle.std.specs.Str.{all_ascii_digits}
use Rattle.std.proofs.lemmas.List.{take_at, get_or_at, length-append}
use Rattle.std.proofs.lemmas.List.Folds.{list_any-append}
use Rattle.frame_range.specs.declared.section.Section.{Section}
use Rattle.frame_range.specs.declared.section.Section.TheVariants.{Single, Range, Stepped, Inverse, Interleaved}
use Rattle.frame_range.specs.Grammar.{IsDigits, IsNumber, IsMarked, IsForm, Spells}
use Rattle.frame_range.specs.Number.{value_from, digits_at, number_at, negative}
use Rattle.frame_range.specs.Sections.{without_front, without_back, onto_back, trimmed, is_dash, is_mark, marked_of, range_of, range_at, section_at}
use Rattle.frame_range.specs.Sets.{is_comma}
use Rattle.std.proofs.lemmas.Bool.{or_cases, eqb-true}
use Rattle.frame_range.proofs.OtherLemmas.{eqb-no}
use Rattle.frame_range.proofs.ReadLemmas.{range_at_none}
use Rattle.frame_range.proofs.TextLemmas.{both_true, or_false, neither_true, digit_is_no_dash, digit_is_no_space, digit_is_no_comma, digit_is_no_mark, digits_lack, position_none, position_at, drop_next}

-- ---- numbers

digits_read : (ds : List ℕ) → IsDigits ds → digits_at ds ≡ Some (value_from 0 ds)
digits_read [] h = absurd (omega (arith, h.some))
digits_read (d ∷ ds) h = ap (λ (b : Bool). cond b (Some (value_from 0 (d ∷ ds))) None) h.digits

plain_read : (ds : List ℕ) → IsDigits ds → number_at ds ≡ Some (pos (value_from 0 ds))
plain_read [] h = absurd (omega (arith, h.some))
plain_read (d ∷ ds) h =
    ap (λ (b : Bool). cond b (option_map negative (digits_at ds)) (option_map pos (digits_at (d ∷ ds)))) (digit_is_no_dash d (both_true (is_ascii_digit d) (all_ascii_digits ds) h.digits).0)
    ∙ ap (option_map pos) (digits_read (d ∷ ds) h)

minus_read : (ds : List ℕ) → IsDigits ds → number_at (45 ∷ ds) ≡ Some (negative (value_from 0 ds))
minus_read ds h = ap (option_map negative) (digits_read ds h)

pub number_reads : (x : List ℕ) (z : ℤ) → IsNumber x z → number_at x ≡ Some z
number_reads x z n =
    ⊎_elim
    (λ plain. ap number_at plain.0 ∙ plain_read n.0 n.1 ∙ ap (λ (v : ℤ). Some v) (sym plain.1))
    (λ minus. ap number_at minus.0 ∙ minus_read n.0 n.1 ∙ ap (λ (v : ℤ). Some v) (sym minus.1))
    n.2

-- a number has none of the bytes that are no digits and no minus sign
pub number_lacks : (p : ℕ → Bool) → ((b : ℕ) → is_ascii_digit b ≡ true → p b ≡ false) → p 45 ≡ false → (x : List ℕ) (z : ℤ) → IsNumber x z → list_any p x ≡ false
number_lacks p h k x z n =
    ⊎_elim
    (λ plain. ap (list_any p) plain.0 ∙ digits_lack p h n.0 n.1.digits)
    (λ minus. ap (list_any p) minus.0 ∙ or_false (p 45) (list_any p n.0) k (digits_lack p h n.0 n.1.digits))
    n.2

tail_lacks : (p : ℕ → Bool) → ((b : ℕ) → is_ascii_digit b ≡ true → p b ≡ false) → (ds : List ℕ) → all_ascii_digits ds ≡ true → list_any p (drop 1 ds) ≡ false
tail_lacks p h [] k = refl
tail_lacks p h (d ∷ ds) k = (neither_true (p d) (list_any p ds) (digits_lack p h (d ∷ ds) k)).1

-- and no dash after its first byte
pub number_dash : (x : List ℕ) (z : ℤ) → IsNumber x z → list_any is_dash (drop 1 x) ≡ false
number_dash x z n =
    ⊎_elim
    (λ plain. ap (λ (t : List ℕ). list_any is_dash (drop 1 t)) plain.0 ∙ tail_lacks is_dash digit_is_no_dash n.0 n.1.digits)
    (λ minus. ap (λ (t : List ℕ). list_any is_dash (drop 1 t)) minus.0 ∙ digits_lack is_dash digit_is_no_dash n.0 n.1.digits)
    n.2

pub number_some : (x : List ℕ) (z : ℤ) → IsNumber x z → 0 < length x
number_some x z n =
    ⊎_elim
    (λ plain. omega (arith, ap length plain.0, n.1.some))
    (λ minus. omega (arith, ap length minus.0))
    n.2

-- ---- forms

pub section_at_none : (t : List ℕ) → position is_dash (drop 1 t) ≡ None → section_at t ≡ option_map Single (number_at t)
unfolding section_at
section_at_none t e =
    ap (λ (o : Option ℕ). elim o as (λ _. Option Section) [ None ↦ option_map Single (number_at t) | Some i ↦ range_at (take (i + 1) t) (drop (i + 2) t) ]) e

pub section_at_some : (t : List ℕ) (i : ℕ) → position is_dash (drop 1 t) ≡ Some i → section_at t ≡ range_at (take (i + 1) t) (drop (i + 2) t)
unfolding section_at
section_at_some t i e =
    ap (λ (o : Option ℕ). elim o as (λ _. Option Section) [ None ↦ option_map Single (number_at t) | Some i ↦ range_at (take (i + 1) t) (drop (i + 2) t) ]) e

pub range_at_some : (first rest : List ℕ) (i : ℕ) → position is_mark rest ≡ Some i →
    range_at first rest ≡ marked_of (slice_index rest i) (number_at first) (number_at (take i rest)) (number_at (drop (i + 1) rest))
range_at_some first rest i e =
    ap (λ (o : Option ℕ). elim o as (λ _. Option Section) [
      | None ↦ range_of (number_at first) (number_at rest)
      | Some i ↦ marked_of (slice_index rest i) (number_at first) (number_at (take i rest)) (number_at (drop (i + 1) rest))
    ]) e

-- a dash after a first number
dash_reads : (x rest : List ℕ) (a : ℤ) → IsNumber x a → section_at (x ++ 45 ∷ rest) ≡ range_at x rest
dash_reads [] rest a n = absurd (omega (arith, number_some [] a n))
dash_reads (b ∷ bs) rest a n =
    let one : length bs + 1 ≡ suc (length bs) = omega arith in
    let two : length bs + 2 ≡ suc (suc (length bs)) = omega arith in
    section_at_some (b ∷ (bs ++ 45 ∷ rest)) (length bs) (position_at is_dash bs 45 rest (number_dash (b ∷ bs) a n) refl)
    ∙ ap (λ (k : ℕ). range_at (take k (b ∷ (bs ++ 45 ∷ rest))) (drop (length bs + 2) (b ∷ (bs ++ 45 ∷ rest)))) one
    ∙ ap (λ (k : ℕ). range_at (b ∷ take (length bs) (bs ++ 45 ∷ rest)) (drop k (b ∷ (bs ++ 45 ∷ rest)))) two
    ∙ ap (λ (l : List ℕ). range_at (b ∷ l) (drop (suc (length bs)) (bs ++ 45 ∷ rest))) (take_at bs (45 ∷ rest) (length bs) refl)
    ∙ ap (range_at (b ∷ bs)) (drop_next bs 45 rest)

-- a second number behind it
last_reads : (x y : List ℕ) (b : ℤ) → IsNumber y b → range_at x y ≡ range_of (number_at x) (number_at y)
last_reads x y b n = range_at_none x y (position_none is_mark y (number_lacks is_mark digit_is_no_mark refl y b n))

-- a second number, a mark and a third one
mark_reads : (m : ℕ) (x y z : List ℕ) (b : ℤ) → is_mark m ≡ true → IsNumber y b → range_at x (y ++ m ∷ z) ≡ marked_of m (number_at x) (number_at y) (number_at z)
mark_reads m x y z b mark n =
    let one : length y + 1 ≡ suc (length y) = omega arith in
    range_at_some x (y ++ m ∷ z) (length y) (position_at is_mark y m z (number_lacks is_mark digit_is_no_mark refl y b n) mark)
    ∙ ap (λ (k : ℕ). marked_of k (number_at x) (number_at (take (length y) (y ++ m ∷ z))) (number_at (drop (length y + 1) (y ++ m ∷ z)))) (get_or_at y m z 0 (length y) refl)
    ∙ ap (λ (l : List ℕ). marked_of m (number_at x) (number_at l) (number_at (drop (length y + 1) (y ++ m ∷ z)))) (take_at y (m ∷ z) (length y) refl)
    ∙ ap (λ (l : List ℕ). marked_of m (number_at x) (number_at y) (number_at l)) (ap (λ (k : ℕ). drop k (y ++ m ∷ z)) one ∙ drop_next y m z)

marked_reads : (m : ℕ) (text : List ℕ) (a b n : ℤ) → is_mark m ≡ true → IsMarked m text a b n → section_at text ≡ marked_of m (Some a) (Some b) (Some n)
marked_reads m text a b n mark form =
    ap section_at form.6
    ∙ dash_reads form.0 (form.1 ++ m ∷ form.2) a form.3
    ∙ mark_reads m form.0 form.1 form.2 b mark form.4
    ∙ ap (λ (o : Option ℤ). marked_of m o (number_at form.1) (number_at form.2)) (number_reads form.0 a form.3)
    ∙ ap (λ (o : Option ℤ). marked_of m (Some a) o (number_at form.2)) (number_reads form.1 b form.4)
    ∙ ap (λ (o : Option ℤ). marked_of m (Some a) (Some b) o) (number_reads form.2 n form.5)

pub form_reads : (text : List ℕ) (s : Section) → IsForm text s → section_at text ≡ Some s
form_reads text (Single number) form =
    section_at_none text (position_none is_dash (drop 1 text) (number_dash text number form)) ∙ ap (option_map Single) (number_reads text number form)
form_reads text (Range first last) form =
    ap section_at form.4
    ∙ dash_reads form.0 form.1 first form.2
    ∙ last_reads form.0 form.1 last form.3
    ∙ ap (λ (o : Option ℤ). range_of o (number_at form.1)) (number_reads form.0 first form.2)
    ∙ ap (λ (o : Option ℤ). range_of (Some first) o) (number_reads form.1 last form.3)
form_reads text (Stepped first last step) form = marked_reads 120 text first last step refl form
form_reads text (Inverse first last step) form = marked_reads 121 text first last step refl form
form_reads text (Interleaved first last step) form = marked_reads 58 text first last step refl form

-- ---- bytes that no form has

pub record IsForeign (p : ℕ → Bool) : Type 0 where
  pub digit : (b : ℕ) → is_ascii_digit b ≡ true → p b ≡ false
  pub dash : p 45 ≡ false
  pub mark : (m : ℕ) → is_mark m ≡ true → p m ≡ false

joined_lacks : (p : ℕ → Bool) (x : List ℕ) (m : ℕ) (y : List ℕ) → list_any p x ≡ false → p m ≡ false → list_any p y ≡ false → list_any p (x ++ m ∷ y) ≡ false
joined_lacks p x m y hx hm hy = list_any-append p x (m ∷ y) ∙ or_false (list_any p x) (p m || list_any p y) hx (or_false (p m) (list_any p y) hm hy)

marked_lacks : (p : ℕ → Bool) → IsForeign p → (m : ℕ) (text : List ℕ) (a b n : ℤ) → is_mark m ≡ true → IsMarked m text a b n → list_any p text ≡ false
marked_lacks p f m text a b n mark form =
    ap (list_any p) form.6
    ∙ joined_lacks p form.0 45 (form.1 ++ m ∷ form.2) (number_lacks p f.digit f.dash form.0 a form.3) f.dash
    (joined_lacks p form.1 m form.2 (number_lacks p f.digit f.dash form.1 b form.4) (f.mark m mark) (number_lacks p f.digit f.dash form.2 n form.5))

pub form_lacks : (p : ℕ → Bool) → IsForeign p → (text : List ℕ) (s : Section) → IsForm text s → list_any p text ≡ false
form_lacks p f text (Single number) form = number_lacks p f.digit f.dash text number form
form_lacks p f text (Range first last) form =
    ap (list_any p) form.4
    ∙ joined_lacks p form.0 45 form.1 (number_lacks p f.digit f.dash form.0 first form.2) f.dash (number_lacks p f.digit f.dash form.1 last form.3)
form_lacks p f text (Stepped first last step) form = marked_lacks p f 120 text first last step refl form
form_lacks p f text (Inverse first last step) form = marked_lacks p f 121 text first last step refl form
form_lacks p f text (Interleaved first last step) form = marked_lacks p f 58 text first last step refl form

-- ---- spaces

abbrev pub is_space : ℕ → Bool
is_space b = b == 32

-- a mark is one of three bytes
pub mark_is : (m : ℕ) → is_mark m ≡ true → (m ≡ 120) ⊎ ((m ≡ 121) ⊎ (m ≡ 58))
mark_is m h =
    ⊎_elim
    (λ x. inl (eqb-true m 120 x))
    (λ more. ⊎_elim (λ y. inr (inl (eqb-true m 121 y))) (λ z. inr (inr (eqb-true m 58 z))) (or_cases (m == 121) (m == 58) more))
    (or_cases (m == 120) (m == 121 || m == 58) h)

mark_not : (c m : ℕ) → c < 58 → is_mark m ≡ true → (m == c) ≡ false
mark_not c m low mark =
    eqb-no m c (λ (e : m ≡ c).
    ⊎_elim (λ (x : m ≡ 120). omega arith) (λ more. ⊎_elim (λ (y : m ≡ 121). omega arith) (λ (z : m ≡ 58). omega arith) more) (mark_is m mark))

pub space_foreign : IsForeign is_space
space_foreign = record { digit = digit_is_no_space; dash = refl; mark = λ m h. mark_not 32 m (omega arith) h }

pub comma_foreign : IsForeign is_comma
comma_foreign = record { digit = digit_is_no_comma; dash = refl; mark = λ m h. mark_not 44 m (omega arith) h }

spaces_front : (n : ℕ) (text : List ℕ) → without_front (replicate n 32 ++ text) ≡ without_front text
spaces_front zero text = refl
spaces_front (suc n) text = spaces_front n text

spaces_none : (n : ℕ) → without_back (replicate n 32) ≡ []
spaces_none zero = refl
spaces_none (suc n) = ap (onto_back 32) (spaces_none n)

spaces_back : (n : ℕ) (text : List ℕ) → without_back (text ++ replicate n 32) ≡ without_back text
spaces_back n [] = spaces_none n
spaces_back n (b ∷ bs) = ap (onto_back b) (spaces_back n bs)

onto_other : (b : ℕ) (bs : List ℕ) → is_space b ≡ false → onto_back b bs ≡ b ∷ bs
onto_other b [] h = ap (λ (t : Bool). cond t [] (b ∷ [])) h
onto_other b (c ∷ cs) h = refl

back_same : (text : List ℕ) → list_any is_space text ≡ false → without_back text ≡ text
back_same [] h = refl
back_same (b ∷ bs) h =
    let parts = neither_true (is_space b) (list_any is_space bs) h in
    ap (onto_back b) (back_same bs parts.1) ∙ onto_other b bs parts.0

front_same : (text rest : List ℕ) → list_any is_space text ≡ false → 0 < length text → without_front (text ++ rest) ≡ text ++ rest
front_same [] rest h some = absurd (omega arith)
front_same (b ∷ bs) rest h some =
    let parts = neither_true (is_space b) (list_any is_space bs) h in
    ap (λ (t : Bool). cond t (without_front (bs ++ rest)) (b ∷ (bs ++ rest))) parts.0

longer : (x y text : List ℕ) → 0 < length x → text ≡ x ++ y → 0 < length text
longer x y text some is = omega (arith, some, ap length is, length-append x y)

form_some : (text : List ℕ) (s : Section) → IsForm text s → 0 < length text
form_some text (Single number) form = number_some text number form
form_some text (Range first last) form = longer form.0 (45 ∷ form.1) text (number_some form.0 first form.2) form.4
form_some text (Stepped first last step) form = longer form.0 (45 ∷ (form.1 ++ 120 ∷ form.2)) text (number_some form.0 first form.3) form.6
form_some text (Inverse first last step) form = longer form.0 (45 ∷ (form.1 ++ 121 ∷ form.2)) text (number_some form.0 first form.3) form.6
form_some text (Interleaved first last step) form = longer form.0 (45 ∷ (form.1 ++ 58 ∷ form.2)) text (number_some form.0 first form.3) form.6

pub trimmed_form : (text : List ℕ) (s : Section) (before after : ℕ) → IsForm text s → trimmed (replicate before 32 ++ (text ++ replicate after 32)) ≡ text
trimmed_form text s before after form =
    let lacks = form_lacks is_space space_foreign text s form in
    ap without_back (spaces_front before (text ++ replicate after 32) ∙ front_same text (replicate after 32) lacks (form_some text s form))
    ∙ spaces_back after text ∙ back_same text lacks

pub spelled_reads : (text : List ℕ) (s : Section) → Spells text s → section_at (trimmed text) ≡ Some s
spelled_reads text s spelled =
    ap (λ (t : List ℕ). section_at (trimmed t)) spelled.4 ∙ ap section_at (trimmed_form spelled.2 s spelled.0 spelled.1 spelled.3) ∙ form_reads spelled.2 s spelled.3
