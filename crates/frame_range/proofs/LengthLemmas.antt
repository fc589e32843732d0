-- What a set prints is no longer than its text.
use Rattle.std.proofs.Common.{◌≡◌, ℕ, zero, suc, ◌+◌, ◌^◌, ◌<◌, ◌≤◌, List, [], ◌∷◌, ◌++◌, length, replicate, Bool, true, false, cond, refl, sym, ap, ◌∙◌, arith, ⊎_elim}
use Rattle.std.specs.Prelude.{ℤ, pos, negsuc, unsigned_abs, Option, Some, None, Result, Ok, Err, ◌||◌}
use Rattle.std.specs.Fmt.{decimal, signed_decimal}
use Rattle.std.proofs.lemmas.Bool.{ltb-false}
use Rattle.std.proofs.lemmas.Fmt.{length-decimal-le}
use Rattle.std.proofs.lemmas.List.{append_assoc, append-nil, length-append}
use Rattle.std.proofs.lemmas.Str.Parse.{digits_value_short}
use Rattle.frame_range.specs.declared.section.Section.{Section}
use Rattle.frame_range.specs.declared.section.Section.TheVariants.{Single, Range, Stepped, Inverse, Interleaved}
use Rattle.frame_range.specs.declared.fault.RangeFault.{RangeFault}
use Rattle.frame_range.specs.Checks.{any_past, has_past}
use Rattle.frame_range.specs.Grammar.{IsDigits, IsNumber, IsMarked, IsForm}
use Rattle.frame_range.specs.Number.{value_from, is_past, negative}
use Rattle.frame_range.specs.Printed.{printed_section, printed_rest, printed, printed_marked}
use Rattle.frame_range.specs.Sections.{trimmed, section_at}
use Rattle.frame_range.specs.Sets.{numbers_of, is_comma, onto_first, pieces, fault_of, with_section, add_section, sections_from, set_of}
use Rattle.frame_range.proofs.AgainLemmas.{own, in_range, bind_ok}
use Rattle.frame_range.proofs.PieceLemmas.{set_of_is}
use Rattle.frame_range.proofs.SoundLemmas.{read_spells}
use Rattle.frame_range.proofs.TextLemmas.{neither_true}
use Rattle.frame_range.specs.declared.limits.TheConstants.{GREATEST}

-- ---- numbers

decimal_short : (n : ℕ) (digits : List ℕ) → n < 2 ^ 64 → IsDigits digits → n ≡ value_from 0 digits → length (decimal n) ≤ length digits
decimal_short n digits low h is =
    let few : n < 10 ^ length digits = rw is (digits_value_short own digits (length digits) h.digits (omega arith)) in
    length-decimal-le (length digits) n h.some few low

abs_negative : (v : ℕ) → unsigned_abs (negative v) ≡ v
abs_negative zero = refl
abs_negative (suc v) = refl

number_short : (x : List ℕ) (z : ℤ) → is_past z ≡ false → IsNumber x z → length (signed_decimal z) ≤ length x
number_short x (pos n) h number =
    let low : n < 2 ^ 64 = omega (arith, ltb-false GREATEST n h) in
    ⊎_elim
    (λ plain.
    let is : n ≡ value_from 0 number.0 = ap unsigned_abs plain.1 in
    omega (arith, decimal_short n number.0 low number.1 is, ap length plain.0))
    (λ minus.
    let is : n ≡ value_from 0 number.0 = ap unsigned_abs minus.1 ∙ abs_negative (value_from 0 number.0) in
    omega (arith, decimal_short n number.0 low number.1 is, ap length minus.0))
    number.2
number_short x (negsuc n) h number =
    let low : suc n < 2 ^ 64 = omega (arith, ltb-false GREATEST (suc n) h) in
    ⊎_elim
    (λ plain. let other : negsuc n ≡ pos (value_from 0 number.0) = plain.1 in absurd (cc))
    (λ minus.
    let is : suc n ≡ value_from 0 number.0 = ap unsigned_abs minus.1 ∙ abs_negative (value_from 0 number.0) in
    omega (arith, decimal_short (suc n) number.0 low number.1 is, ap length minus.0))
    number.2

-- ---- sections

marked_short : (m : ℕ) (text : List ℕ) (first last step : ℤ) → any_past first last step ≡ false → IsMarked m text first last step → length (printed_marked first last m step) ≤ length text
marked_short m text first last step h form =
    let outer = neither_true (is_past first || is_past last) (is_past step) h in
    let inner = neither_true (is_past first) (is_past last) outer.0 in
    omega (
      arith,
      number_short form.0 first inner.0 form.3,
      number_short form.1 last inner.1 form.4,
      number_short form.2 step outer.1 form.5,
      ap length form.6,
      length-append (signed_decimal first) (45 ∷ (signed_decimal last ++ m ∷ signed_decimal step)),
      length-append (signed_decimal last) (m ∷ signed_decimal step),
      length-append form.0 (45 ∷ (form.1 ++ m ∷ form.2)),
      length-append form.1 (m ∷ form.2),
    )

form_short : (text : List ℕ) (s : Section) → has_past s ≡ false → IsForm text s → length (printed_section s) ≤ length text
unfolding printed_section
form_short text (Single number) h form = number_short text number h form
form_short text (Range first last) h form =
    let both = neither_true (is_past first) (is_past last) h in
    omega (
      arith,
      number_short form.0 first both.0 form.2,
      number_short form.1 last both.1 form.3,
      ap length form.4,
      length-append (signed_decimal first) (45 ∷ signed_decimal last),
      length-append form.0 (45 ∷ form.1),
    )
form_short text (Stepped first last step) h form = marked_short 120 text first last step h form
form_short text (Inverse first last step) h form = marked_short 121 text first last step h form
form_short text (Interleaved first last step) h form = marked_short 58 text first last step h form

section_short : (text : List ℕ) (s : Section) → has_past s ≡ false → section_at (trimmed text) ≡ Some s → length (printed_section s) ≤ length text
section_short text s h is =
    let spelled = read_spells text s is in
    omega (
      arith,
      form_short spelled.2 s h spelled.3,
      ap length spelled.4,
      length-append (replicate spelled.0 32) (spelled.2 ++ replicate spelled.1 32),
      length-append spelled.2 (replicate spelled.1 32),
    )

-- ---- one section more

-- the sections grew by one that prints no longer than the text
pub record GrowsBy (before : List Section) (text : List ℕ) (now : List Section) : Type 0 where
  pub one : Section
  pub is : now ≡ before ++ one ∷ []
  pub short : length (printed_section one) ≤ length text

with_short : (before : List Section) (text : List ℕ) (s : Section) (o : Option RangeFault) (now : List Section) → section_at (trimmed text) ≡ Some s
    → fault_of (length before + 1) (numbers_of before) s ≡ o
    → elim o as (λ _. Result (List Section) RangeFault) [ None ↦ Ok (before ++ s ∷ []) | Some fault ↦ Err fault ] ≡ Ok now → GrowsBy before text now
with_short before text s None now is e h = record { one = s; is = cc; short = section_short text s (in_range (length before + 1) (numbers_of before) s e) is }
with_short before text s (Some f) now is e h = absurd (cc)

found_short : (before : List Section) (text : List ℕ) (o : Option Section) (now : List Section) → section_at (trimmed text) ≡ o → with_section before o ≡ Ok now → GrowsBy before text now
found_short before text None now is h = absurd (cc)
found_short before text (Some s) now is h = with_short before text s (fault_of (length before + 1) (numbers_of before) s) now is refl h

add_short : (before : List Section) (text : List ℕ) (now : List Section) → add_section before text ≡ Ok now → GrowsBy before text now
unfolding add_section
add_short before text now h = found_short before text (section_at (trimmed text)) now refl h

-- ---- sections joined

-- the lengths of the texts, with a comma before each
abbrev joined : List (List ℕ) → ℕ
joined [] = 0
joined (text ∷ texts) = suc (length text + joined texts)

onto_joined : (b : ℕ) (texts : List (List ℕ)) (n : ℕ) → joined texts ≡ suc n → joined (onto_first b texts) ≡ suc (suc n)
onto_joined b [] n h = absurd (omega (arith, h))
onto_joined b (text ∷ texts) n h = omega (arith, h)

pieces_joined : (text : List ℕ) → joined (pieces text) ≡ suc (length text)
pieces_joined [] = refl
pieces_joined (b ∷ bs) = by (is_comma b) (pieces_joined bs)
  where
    by : (t : Bool) → joined (pieces bs) ≡ suc (length bs) → joined (cond t ([] ∷ pieces bs) (onto_first b (pieces bs))) ≡ suc (suc (length bs))
    by true h = omega (arith, h)
    by false h = onto_joined b (pieces bs) (length bs) h

-- the sections are those before and others, which print no longer than the texts with their commas
pub record GrowsByAll (before : List Section) (texts : List (List ℕ)) (now : List Section) : Type 0 where
  pub others : List Section
  pub is : now ≡ before ++ others
  pub short : length (printed_rest others) ≤ joined texts

rest_short : (texts : List (List ℕ)) (before now : List Section) → sections_from before texts ≡ Ok now → GrowsByAll before texts now
rest_short [] before now h =
    let same : before ≡ now = cc in
    record { others = []; is = sym same ∙ sym (append-nil before); short = omega arith }
rest_short (text ∷ texts) before now h =
    let step = bind_ok (add_section before text) (λ more. sections_from more texts) now h in
    let one = add_short before text step.0 step.1 in
    let rest = rest_short texts step.0 now step.2 in
    record {
      others = one.one ∷ rest.others;
      is = rest.is ∙ ap (λ (l : List Section). l ++ rest.others) one.is ∙ append_assoc before (one.one ∷ []) rest.others;
      short = omega (arith, one.short, rest.short, length-append (printed_section one.one) (printed_rest rest.others));
    }

pub printed_short : (text : List ℕ) (sections : List Section) → set_of text ≡ Ok sections → length (printed sections) ≤ length text
printed_short text sections h =
    let grown = rest_short (pieces text) [] sections (sym (set_of_is text) ∙ h) in
    rw grown.is (by grown.others grown.short)
  where
    by : (others : List Section) → length (printed_rest others) ≤ joined (pieces text) → length (printed others) ≤ length text
    by [] short = omega arith
    by (s ∷ ss) short = omega (arith, short, pieces_joined text)
