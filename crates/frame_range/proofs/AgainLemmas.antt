-- What is printed is read again.
use Rattle.std.proofs.Common.{◌≡◌, ℕ, suc, ◌+◌, ◌^◌, ◌<◌, List, [], ◌∷◌, ◌++◌, length, Bool, true, false, cond, refl, sym, ap, ◌∙◌, arith, subst, map, inl, inr, rules}
use Rattle.std.specs.Prelude.{ℤ, pos, negsuc, Option, Some, None, Result, Ok, Err, ◌||◌}
use Rattle.std.specs.Fmt.{decimal, signed_decimal}
use Rattle.std.specs.List.{list_any}
use Rattle.std.specs.Str.{all_ascii_digits}
use Rattle.std.proofs.lemmas.Bool.{ltb-false}
use Rattle.std.proofs.lemmas.Fmt.{digits_decimal, digits_value-decimal, decimal_nonempty}
use Rattle.std.proofs.lemmas.List.{append_assoc, append-nil, length_push}
use Rattle.std.proofs.lemmas.Str.Parse.{IsNumeralModel, numerals_by_fold, tells_all_ascii_digits}
use Rattle.frame_range.specs.declared.section.Section.{Section}
use Rattle.frame_range.specs.declared.section.Section.TheVariants.{Single, Range, Stepped, Inverse, Interleaved}
use Rattle.frame_range.specs.declared.fault.RangeFault.{RangeFault}
use Rattle.frame_range.specs.declared.fault.RangeFault.TheVariants.{OutOfRange}
use Rattle.frame_range.specs.Checks.{any_past, has_past}
use Rattle.frame_range.specs.Grammar.{IsDigits, IsNumber, IsMarked, IsForm}
use Rattle.frame_range.specs.Number.{value_from, is_past, negative}
use Rattle.frame_range.specs.Places.{with_all}
use Rattle.frame_range.specs.Printed.{printed_section, printed_rest, printed, printed_marked}
use Rattle.frame_range.specs.Sections.{trimmed, section_at}
use Rattle.frame_range.specs.Sets.{numbers_of, is_comma, onto_first, pieces, fault_of, with_section, add_section, sections_from, set_of, ◌>>=◌, fault_from, IsSet, IsFaultless}
use Rattle.frame_range.specs.Steps.{section_numbers}
use Rattle.frame_range.proofs.TextLemmas.{neither_true}
use Rattle.frame_range.proofs.GrammarLemmas.{form_lacks, comma_foreign, spelled_reads}
use Rattle.frame_range.proofs.PieceLemmas.{numbers_none, set_of_is, sections_ok}
use Rattle.frame_range.proofs.AddLemmas.{with_none, first_none, numbers_push, set_push, pushed_some}
use Rattle.frame_range.specs.declared.limits.TheConstants.{GREATEST}

-- ---- numbers

pub own : IsNumeralModel (λ ds. all_ascii_digits ds ≡ true) (value_from 0)
own = numerals_by_fold _ tells_all_ascii_digits value_from (search rules)

decimal_digits : (n : ℕ) → n < 2 ^ 64 → IsDigits (decimal n)
decimal_digits n h = record { some = decimal_nonempty n h; digits = digits_decimal own n h }

pub number_printed : (z : ℤ) → is_past z ≡ false → IsNumber (signed_decimal z) z
number_printed (pos n) h =
    let low : n < 2 ^ 64 = omega (arith, ltb-false GREATEST n h) in
    (decimal n, decimal_digits n low, inl (refl, ap pos (sym (digits_value-decimal own n low))))
number_printed (negsuc n) h =
    let low : suc n < 2 ^ 64 = omega (arith, ltb-false GREATEST (suc n) h) in
    (decimal (suc n), decimal_digits (suc n) low, inr (refl, ap negative (sym (digits_value-decimal own (suc n) low))))

-- ---- sections

marked_printed : (m : ℕ) (first last step : ℤ) → any_past first last step ≡ false → IsMarked m (printed_marked first last m step) first last step
marked_printed m first last step h =
    let outer = neither_true (is_past first || is_past last) (is_past step) h in
    let inner = neither_true (is_past first) (is_past last) outer.0 in
    (signed_decimal first, signed_decimal last, signed_decimal step, number_printed first inner.0, number_printed last inner.1, number_printed step outer.1, refl)

pub section_printed : (s : Section) → has_past s ≡ false → IsForm (printed_section s) s
unfolding printed_section
section_printed (Single number) h = number_printed number h
section_printed (Range first last) h =
    let both = neither_true (is_past first) (is_past last) h in
    (signed_decimal first, signed_decimal last, number_printed first both.0, number_printed last both.1, refl)
section_printed (Stepped first last step) h = marked_printed 120 first last step h
section_printed (Inverse first last step) h = marked_printed 121 first last step h
section_printed (Interleaved first last step) h = marked_printed 58 first last step h

printed_reads : (s : Section) → has_past s ≡ false → section_at (trimmed (printed_section s)) ≡ Some s
printed_reads s h = spelled_reads (printed_section s) s (0, 0, printed_section s, section_printed s h, sym (append-nil (printed_section s)))

past_no : (b : Bool) (f : RangeFault) (rest : Option RangeFault) → cond b (Some f) rest ≡ None → b ≡ false
past_no true f rest h = absurd (cc)
past_no false f rest h = refl

pub in_range : (place : ℕ) (listed : List ℤ) (s : Section) → fault_of place listed s ≡ None → has_past s ≡ false
unfolding fault_of
in_range place listed s h = past_no (has_past s) (OutOfRange place) _ h

-- ---- pieces

pieces_comma : (x rest : List ℕ) → list_any is_comma x ≡ false → pieces (x ++ 44 ∷ rest) ≡ x ∷ pieces rest
pieces_comma [] rest h = refl
pieces_comma (b ∷ bs) rest h =
    let parts = neither_true (is_comma b) (list_any is_comma bs) h in
    ap (λ (t : Bool). cond t ([] ∷ pieces (bs ++ 44 ∷ rest)) (onto_first b (pieces (bs ++ 44 ∷ rest)))) parts.0
    ∙ ap (onto_first b) (pieces_comma bs rest parts.1)

pieces_alone : (x : List ℕ) → list_any is_comma x ≡ false → pieces x ≡ x ∷ []
pieces_alone [] h = refl
pieces_alone (b ∷ bs) h =
    let parts = neither_true (is_comma b) (list_any is_comma bs) h in
    ap (λ (t : Bool). cond t ([] ∷ pieces bs) (onto_first b (pieces bs))) parts.0 ∙ ap (onto_first b) (pieces_alone bs parts.1)

no_comma : (s : Section) → has_past s ≡ false → list_any is_comma (printed_section s) ≡ false
no_comma s h = form_lacks is_comma comma_foreign (printed_section s) s (section_printed s h)

pieces_printed : (place : ℕ) (listed : List ℤ) (x : List ℕ) (ss : List Section) → list_any is_comma x ≡ false → fault_from place listed ss ≡ None →
    pieces (x ++ printed_rest ss) ≡ x ∷ map printed_section ss
pieces_printed place listed x [] h f = ap pieces (append-nil x) ∙ pieces_alone x h
pieces_printed place listed x (s ∷ ss) h f =
    let both = first_none (fault_of place listed s) (fault_from (place + 1) (with_all listed (section_numbers s)) ss) f in
    pieces_comma x (printed_section s ++ printed_rest ss) h
    ∙ ap (λ (l : List (List ℕ)). x ∷ l)
    (pieces_printed (place + 1) (with_all listed (section_numbers s)) (printed_section s) ss (no_comma s (in_range place listed s both.0)) both.1)

-- ---- sets

add_again : (before : List Section) (s : Section) → fault_of (length before + 1) (numbers_of before) s ≡ None → add_section before (printed_section s) ≡ Ok (before ++ s ∷ [])
unfolding add_section
add_again before s f =
    ap (with_section before) (printed_reads s (in_range (length before + 1) (numbers_of before) s f)) ∙ with_none before s (length before + 1) refl f

sections_again : (before ss : List Section) → fault_from (length before + 1) (numbers_of before) ss ≡ None → sections_from before (map printed_section ss) ≡ Ok (before ++ ss)
sections_again before [] f = ap (λ (l : List Section). Ok l) (sym (append-nil before))
sections_again before (s ∷ ss) f =
    let both = first_none (fault_of (length before + 1) (numbers_of before) s) (fault_from ((length before + 1) + 1) (with_all (numbers_of before) (section_numbers s)) ss) f in
    let longer : (length before + 1) + 1 ≡ length (before ++ s ∷ []) + 1 = omega (arith, length_push before s) in
    sections_ok before (before ++ s ∷ []) (printed_section s) (map printed_section ss) (add_again before s both.0)
    ∙ sections_again (before ++ s ∷ []) ss
    (ap (λ (l : List ℤ). fault_from (length (before ++ s ∷ []) + 1) l ss) (numbers_push before s)
    ∙ ap (λ (n : ℕ). fault_from n (with_all (numbers_of before) (section_numbers s)) ss) (sym longer)
    ∙ both.1)
    ∙ ap (λ (l : List Section). Ok l) (append_assoc before (s ∷ []) ss)

pub set_again : (ss : List Section) → IsSet ss → set_of (printed ss) ≡ Ok ss
set_again [] h = absurd (omega (arith, h.some))
set_again (s ∷ ss) h =
    let both = first_none (fault_of 1 [] s) (fault_from (1 + 1) (with_all [] (section_numbers s)) ss) h.faultless in
    set_of_is (printed (s ∷ ss))
    ∙ ap (sections_from []) (pieces_printed (1 + 1) (with_all [] (section_numbers s)) (printed_section s) ss (no_comma s (in_range 1 [] s both.0)) both.1)
    ∙ sections_again [] (s ∷ ss) (ap (λ (l : List ℤ). fault_from 1 l (s ∷ ss)) numbers_none ∙ h.faultless)

-- ---- the sections of a text are a set

pub record Grows (before now : List Section) : Type 0 where
  pub one : Section
  pub is : now ≡ before ++ one ∷ []
  pub faultless : fault_of (length before + 1) (numbers_of before) one ≡ None

with_grows : (before : List Section) (s : Section) (o : Option RangeFault) (now : List Section) → fault_of (length before + 1) (numbers_of before) s ≡ o →
    elim o as (λ _. Result (List Section) RangeFault) [ None ↦ Ok (before ++ s ∷ []) | Some fault ↦ Err fault ] ≡ Ok now → Grows before now
with_grows before s None now e h = record { one = s; is = cc; faultless = e }
with_grows before s (Some f) now e h = absurd (cc)

section_grows : (before : List Section) (o : Option Section) (now : List Section) → with_section before o ≡ Ok now → Grows before now
section_grows before None now h = absurd (cc)
section_grows before (Some s) now h = with_grows before s (fault_of (length before + 1) (numbers_of before) s) now refl h

add_grows : (before : List Section) (text : List ℕ) (now : List Section) → add_section before text ≡ Ok now → Grows before now
unfolding add_section
add_grows before text now h = section_grows before (section_at (trimmed text)) now h

grown : (before now : List Section) → IsFaultless before → Grows before now → IsSet now
grown before now h g =
    subst IsSet (sym g.is)
    (record { faultless = (set_push before g.one (length before + 1) refl h g.faultless).faultless; some = pushed_some before g.one })

pub bind_ok : {A B : Type 0} (r : Result A RangeFault) (f : A → Result B RangeFault) (y : B) → (r >>= f) ≡ Ok y → (x : A) × (r ≡ Ok x) × (f x ≡ Ok y)
bind_ok (Ok x) f y h = (x, refl, h)
bind_ok (Err e) f y h = absurd (cc)

sections_set : (texts : List (List ℕ)) (text : List ℕ) (before ss : List Section) → IsFaultless before → sections_from before (text ∷ texts) ≡ Ok ss → IsSet ss
sections_set [] text before ss h k =
    let step = bind_ok (add_section before text) (λ now. Ok now) ss k in
    let same : step.0 ≡ ss = cc in
    subst IsSet same (grown before step.0 h (add_grows before text step.0 step.1))
sections_set (t ∷ ts) text before ss h k =
    let step = bind_ok (add_section before text) (λ now. sections_from now (t ∷ ts)) ss k in
    let set = grown before step.0 h (add_grows before text step.0 step.1) in
    sections_set ts t step.0 ss (record { faultless = set.faultless }) step.2

pieces_some : (text : List ℕ) → (piece : List ℕ) × (rest : List (List ℕ)) × (pieces text ≡ piece ∷ rest)
pieces_some [] = ([], [], refl)
pieces_some (b ∷ bs) = some_step b bs (is_comma b) (pieces_some bs)
  where
    some_step : (b : ℕ) (bs : List ℕ) (t : Bool) → (piece : List ℕ) × (rest : List (List ℕ)) × (pieces bs ≡ piece ∷ rest) →
        (piece : List ℕ) × (rest : List (List ℕ)) × (cond t ([] ∷ pieces bs) (onto_first b (pieces bs)) ≡ piece ∷ rest)
    some_step b bs true h = ([], pieces bs, refl)
    some_step b bs false h = (b ∷ h.0, h.1, ap (onto_first b) h.2)

pub read_set : (text : List ℕ) (ss : List Section) → set_of text ≡ Ok ss → IsSet ss
read_set text ss h =
    let some = pieces_some text in
    sections_set some.1 some.0 [] ss (record { faultless = refl }) (ap (sections_from []) (sym some.2) ∙ sym (set_of_is text) ∙ h)

pub read_again : (text : List ℕ) (ss : List Section) → set_of text ≡ Ok ss → set_of (printed ss) ≡ Ok ss
read_again text ss h = set_again ss (read_set text ss h)
