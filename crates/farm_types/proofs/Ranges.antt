-- Frame ranges: when a text is a range's, and what it says then; no number stands twice; the demonstration's range.
use Rattle.std.proofs.Common.{◌≡◌, ◌<◌, ◌≤◌, ℕ, true, leb, List, [], ◌∷◌, ◌++◌, length, Result, Ok, Err, refl, ap, sym, subst, leb-true, ◌∙◌}
use Rattle.std.specs.Prelude.{codes, ℤ, pos}
use Rattle.std.specs.Fmt.{digits, signed_decimal}
use Rattle.std.specs.List.{IsDistinct, list_all}
use Rattle.std.specs.Ordering.{int_eq}
use Rattle.std.specs.Cmp.Derive.{both_true}
use Rattle.std.specs.Str.{is_utf8}
use Rattle.std.proofs.lemmas.Bool.{false≢true, le-leb}
use Rattle.std.proofs.lemmas.Slice.Eq.{bytes_eq-Decides}
use Rattle.std.proofs.lemmas.List.Folds.{list_all-append}
use Rattle.farm_types.specs.Ranges.{is_range_text, prints_as, range_numbers, sections_in}
use Rattle.farm_types.specs.declared.limits.TheConstants.{MOST_RANGE}
use Rattle.farm_types.proofs.Lists.{and_both}
use Rattle.farm_types.proofs.NumberTexts.{signed_ascii}
use Rattle.farm_types.proofs.Utf8.{ascii_utf8, is_ascii}
use Rattle.frame_range.specs.declared.fault.RangeFault.{RangeFault}
use Rattle.frame_range.specs.declared.section.Section.{Section}
use Rattle.frame_range.specs.declared.section.Section.TheVariants.{Single, Range, Stepped, Inverse, Interleaved}
use Rattle.frame_range.proofs.AgainLemmas.{read_set}
use Rattle.frame_range.proofs.DistinctLemmas.{numbers_distinct, numbers_some}
use Rattle.frame_range.specs.Sets.{add_section, fault_of, numbers_of, set_of}
use Rattle.frame_range.specs.Printed.{printed, printed_marked, printed_rest, printed_section}
use Rattle.frame_range.specs.Sections.{section_at}
use Rattle.frame_range.specs.Steps.{section_numbers}

-- ---- the text of a set as the set prints

-- the text, of so many bytes at most, that the sections print as is a range's
pub range_formed : (text : List ℕ) (sections : List Section) → set_of text ≡ Ok sections → text ≡ printed sections → length text ≤ MOST_RANGE → is_range_text text ≡ true
unfolding is_range_text
range_formed text sections read prints short =
    both_true (le-leb (length text) MOST_RANGE short) (ap (prints_as text) read ∙ (bytes_eq-Decides text (printed sections)).1 prints)

-- its numbers are those of the sections
pub numbers_said : (text : List ℕ) (sections : List Section) → set_of text ≡ Ok sections → range_numbers text ≡ numbers_of sections
unfolding range_numbers
numbers_said text sections read = ap (λ (r : Result (List Section) RangeFault). numbers_of (sections_in r)) read

-- a range's text is of so many bytes at most, and read as sections that print as it
pub record IsRange (text : List ℕ) : Type 0 where
  pub sections : List Section
  pub read : set_of text ≡ Ok sections
  pub prints : printed sections ≡ text
  pub short : length text ≤ MOST_RANGE

range_by : (text : List ℕ) (r : Result (List Section) RangeFault) → set_of text ≡ r → prints_as text r ≡ true → length text ≤ MOST_RANGE → IsRange text
range_by text (Ok sections) read same short = record { sections = sections; read = read; prints = sym ((bytes_eq-Decides text (printed sections)).0 same); short = short }
range_by text (Err fault) read same short = absurd (false≢true same)

pub range_read : (text : List ℕ) → is_range_text text ≡ true → IsRange text
unfolding is_range_text
range_read text h =
    let both = and_both (leb (length text) MOST_RANGE) (prints_as text (set_of text)) h in
    range_by text (set_of text) refl both.1 (leb-true (length text) MOST_RANGE both.0)

-- ---- it is ASCII, and so UTF-8

abbrev IsPlain : List ℕ → Type 0
IsPlain text = list_all is_ascii text ≡ true

joined : (xs ys : List ℕ) → IsPlain xs → IsPlain ys → IsPlain (xs ++ ys)
joined xs ys first second = list_all-append is_ascii xs ys ∙ both_true first second

marked_plain : (first last : ℤ) (mark : ℕ) (step : ℤ) → is_ascii mark ≡ true → IsPlain (printed_marked first last mark step)
marked_plain first last mark step plain =
    joined (signed_decimal first) (45 ∷ (signed_decimal last ++ mark ∷ signed_decimal step)) (signed_ascii first)
    (both_true refl (joined (signed_decimal last) (mark ∷ signed_decimal step) (signed_ascii last) (both_true plain (signed_ascii step))))

section_plain : (s : Section) → IsPlain (printed_section s)
unfolding printed_section
section_plain (Single number) = signed_ascii number
section_plain (Range first last) = joined (signed_decimal first) (45 ∷ signed_decimal last) (signed_ascii first) (both_true refl (signed_ascii last))
section_plain (Stepped first last step) = marked_plain first last 120 step refl
section_plain (Inverse first last step) = marked_plain first last 121 step refl
section_plain (Interleaved first last step) = marked_plain first last 58 step refl

rest_plain : (ss : List Section) → IsPlain (printed_rest ss)
rest_plain [] = refl
rest_plain (s ∷ ss) = both_true refl (joined (printed_section s) (printed_rest ss) (section_plain s) (rest_plain ss))

printed_plain : (ss : List Section) → IsPlain (printed ss)
printed_plain [] = refl
printed_plain (s ∷ ss) = joined (printed_section s) (printed_rest ss) (section_plain s) (rest_plain ss)

pub range_utf8 : (text : List ℕ) → is_range_text text ≡ true → is_utf8 text ≡ true
range_utf8 text h = let range = range_read text h in ascii_utf8 text (subst IsPlain range.prints (printed_plain range.sections))

-- ---- its numbers

-- no number of a range stands twice
pub range_distinct : (text : List ℕ) → IsDistinct int_eq (range_numbers text)
unfolding range_numbers
range_distinct text = numbers_distinct (sections_in (set_of text))

-- a range's text says a number
pub range_some : (text : List ℕ) → is_range_text text ≡ true → 0 < length (range_numbers text)
range_some text h =
    let range = range_read text h in
    subst (λ (zs : List ℤ). 0 < length zs) (sym (numbers_said text range.sections range.read)) (numbers_some range.sections (read_set text range.sections range.read))

-- ---- the demonstration's range

abbrev pub demo_numbers : List ℤ
demo_numbers = pos 1 ∷ pos 2 ∷ pos 3 ∷ pos 4 ∷ pos 5 ∷ pos 6 ∷ pos 7 ∷ pos 8 ∷ pos 9 ∷ pos 10 ∷ []

pub demo_text : is_range_text (codes "1-10") ≡ true
unfolding is_range_text set_of add_section section_at fault_of numbers_of section_numbers printed_section digits
demo_text = refl

pub demo_range : range_numbers (codes "1-10") ≡ demo_numbers
unfolding range_numbers set_of add_section section_at fault_of numbers_of section_numbers
demo_range = refl
