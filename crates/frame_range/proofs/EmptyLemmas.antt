-- Which sections have no number.
use Rattle.std.proofs.Common.{◌≡◌, ◌≢◌, ℕ, zero, suc, ◌+◌, ◌/◌, ◌%◌, ◌<◌, ◌≤◌, List, [], ◌∷◌, ◌++◌, length, Bool, true, false, refl, sym, ap, ◌∙◌, arith}
use Rattle.std.specs.Prelude.{ℤ, pos, negsuc, ◌-ℤ◌, ◌+ℤ◌, unsigned_abs, int_lt, ◌==◌}
use Rattle.std.specs.List.{flat_map}
use Rattle.std.specs.Ordering.{int_eq}
use Rattle.std.proofs.lemmas.Bool.Decides.{Decides-eqb}
use Rattle.std.proofs.Math.Nat.{mod-one, mod-eq_of_lt}
use Rattle.frame_range.specs.declared.section.Section.TheVariants.{Single, Range, Stepped, Inverse, Interleaved}
use Rattle.frame_range.specs.Away.{stride, others_from, halves_from}
use Rattle.frame_range.specs.Places.{with_all}
use Rattle.frame_range.specs.Sets.{is_nil}
use Rattle.frame_range.specs.Steps.{steps_from, numbers_by, halvings, one_toward, section_numbers}
use Rattle.frame_range.proofs.StepLemmas.{steps_first, length-le-with_all}
use Rattle.frame_range.proofs.OtherLemmas.{eqb-no, halves_more}
use Rattle.frame_range.proofs.SectionLemmas.{stride_of, inverse_is, halves_are}

-- a step that isn't 0 has a size
pub size_some : (step : ℤ) → int_eq step (pos 0) ≡ false → 0 < unsigned_abs step
size_some (pos zero) h = absurd (cc)
size_some (pos (suc n)) h = omega arith
size_some (negsuc n) h = omega arith

pub single_some : (number : ℤ) → false ≡ is_nil (section_numbers (Single number))
unfolding section_numbers
single_some number = refl

steps_some : (first step : ℤ) (n : ℕ) → false ≡ is_nil (steps_from first step (n + 1))
steps_some first step n = sym (ap is_nil (steps_first first step n))

pub range_some : (first last : ℤ) → false ≡ is_nil (section_numbers (Range first last))
unfolding section_numbers
range_some first last = steps_some first (one_toward first last) (unsigned_abs (first -ℤ last) / unsigned_abs (one_toward first last))

pub stepped_some : (first last step : ℤ) → false ≡ is_nil (section_numbers (Stepped first last step))
unfolding section_numbers
stepped_some first last step = steps_some first step (unsigned_abs (first -ℤ last) / unsigned_abs step)

long_some : (zs : List ℤ) → 1 ≤ length zs → false ≡ is_nil zs
long_some [] h = absurd (omega arith)
long_some (z ∷ zs) h = refl

all_some : (z : ℤ) (zs : List ℤ) → false ≡ is_nil (with_all [] (z ∷ zs))
all_some z zs = long_some (with_all (z ∷ []) zs) (length-le-with_all (z ∷ []) zs)

halves_some : (first : ℤ) (up : Bool) (span size : ℕ) → 0 < size → false ≡ is_nil (with_all [] (halves_from first up span size size))
halves_some first up span size some =
    let more = halves_more first up span size size some (omega arith) in
    all_some first (steps_from (first +ℤ stride up size) (stride up size) (span / size) ++ halves_from first up span more.0 (size / 2))
    ∙ sym (ap (λ (zs : List ℤ). is_nil (with_all [] zs))
    (more.2 ∙ ap (λ (zs : List ℤ). zs ++ halves_from first up span more.0 (size / 2)) (steps_first first (stride up size) (span / size))))

pub interleaved_some : (first last step : ℤ) → int_eq step (pos 0) ≡ false → false ≡ is_nil (section_numbers (Interleaved first last step))
unfolding section_numbers
interleaved_some first last step nonzero =
    halves_some first (int_lt (pos 0) step) (unsigned_abs (first -ℤ last)) (unsigned_abs step) (size_some step nonzero)
    ∙ ap (λ (zs : List ℤ). is_nil (with_all [] zs))
    (sym (halves_are first last (int_lt (pos 0) step) (unsigned_abs (first -ℤ last)) refl (unsigned_abs step) (unsigned_abs step))
    ∙ ap (λ (z : ℤ). flat_map (numbers_by first last) (halvings (unsigned_abs step) z)) (stride_of step))

-- ---- an inverse step

ones_none : (first : ℤ) (up : Bool) (count offset : ℕ) → others_from first up 1 offset count ≡ []
ones_none first up zero offset = refl
ones_none first up (suc count) offset =
    let test : (offset % 1 == 0) ≡ true = (Decides-eqb (offset % 1) 0).1 (mod-one offset) in
    rw test (ones_none first up count (offset + 1))

others_nil : (first : ℤ) (up : Bool) (size span : ℕ) → 0 < size → size ≢ 1 → (span == 0) ≡ is_nil (others_from first up size 0 (span + 1))
others_nil first up size zero some other =
    let test : (0 % size == 0) ≡ true = (Decides-eqb (0 % size) 0).1 (mod-eq_of_lt some) in
    let none : others_from first up size 0 1 ≡ [] = rw test refl in
    sym (ap is_nil none)
others_nil first up size (suc n) some other =
    let test : (0 % size == 0) ≡ true = (Decides-eqb (0 % size) 0).1 (mod-eq_of_lt some) in
    let large : 1 < size = omega arith in
    let next : (1 % size == 0) ≡ false = eqb-no (1 % size) 0 (λ e. omega (arith, e, mod-eq_of_lt large)) in
    let count : suc n + 1 ≡ suc (suc n) = omega arith in
    let nonzero : (suc n == 0) ≡ false = eqb-no (suc n) 0 (omega arith) in
    nonzero ∙ rw (count, test, next) refl

inverse_others : (first last step : ℤ) (size span : ℕ) → size ≡ unsigned_abs step → 0 < size → span ≡ unsigned_abs (first -ℤ last) →
    section_numbers (Inverse first last step) ≡ others_from first (int_lt (pos 0) step) size 0 (span + 1)
unfolding section_numbers
inverse_others first last step size span sized some far =
    inverse_is first last step (int_lt (pos 0) step) size span (sym (ap (stride (int_lt (pos 0) step)) sized ∙ stride_of step)) some far

pub inverse_one : (first last step : ℤ) (size : ℕ) → size ≡ unsigned_abs step → size ≡ 1 → (size == 1) ≡ is_nil (section_numbers (Inverse first last step))
inverse_one first last step size sized one =
    (Decides-eqb size 1).1 one
    ∙ sym (ap is_nil
    (inverse_others first last step size (unsigned_abs (first -ℤ last)) sized (omega arith) refl
    ∙ ap (λ (n : ℕ). others_from first (int_lt (pos 0) step) n 0 (unsigned_abs (first -ℤ last) + 1)) one
    ∙ ones_none first (int_lt (pos 0) step) (unsigned_abs (first -ℤ last) + 1) 0))

pub inverse_other : (first last step : ℤ) (size span : ℕ) → size ≡ unsigned_abs step → int_eq step (pos 0) ≡ false → span ≡ unsigned_abs (first -ℤ last) → size ≢ 1 →
    (span == 0) ≡ is_nil (section_numbers (Inverse first last step))
inverse_other first last step size span sized nonzero far other =
    let some : 0 < size = omega (arith, size_some step nonzero) in
    others_nil first (int_lt (pos 0) step) size span some other ∙ ap is_nil (sym (inverse_others first last step size span sized some far))
