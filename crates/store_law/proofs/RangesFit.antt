-- The numbers of a range are within 32 bits.
use Rattle.std.proofs.Common.{◌≡◌, ◌≤◌, ℕ, suc, zero, ◌+◌, ◌*◌, ◌/◌, Bool, true, false, not, cond, List, [], ◌∷◌, ◌++◌, Some, None, Result, Ok, Err, refl, sym, subst, arith, div-mul-le_self, suc-mul}
use Rattle.std.specs.Prelude.{ℤ, pos, negsuc, ◌+ℤ◌, ◌-ℤ◌, unsigned_abs, ◌||◌}
use Rattle.std.specs.Int.{int_signum}
use Rattle.std.specs.List.{AllByRecursion, filter, flat_map, slice_get}
use Rattle.std.proofs.lemmas.Bool.{le-leb, ltb-false}
use Rattle.std.proofs.lemmas.Int.{ints}
use Rattle.std.proofs.lemmas.Option.{none-some, same_Some}
use Rattle.std.specs.Cmp.Derive.{both_true}
use Rattle.farm_types.specs.Ranges.{range_numbers, sections_in}
use Rattle.frame_range.specs.declared.fault.RangeFault.{RangeFault}
use Rattle.frame_range.specs.declared.limits.TheConstants.{GREATEST}
use Rattle.frame_range.specs.declared.section.Section.{Section}
use Rattle.frame_range.specs.declared.section.Section.TheVariants.{Single, Range, Stepped, Inverse, Interleaved}
use Rattle.frame_range.specs.Checks.{has_past}
use Rattle.frame_range.specs.Number.{is_past}
use Rattle.frame_range.specs.Places.{has, with_all, with_number}
use Rattle.frame_range.specs.Sets.{fault_from, fault_of, numbers_of, set_of}
use Rattle.frame_range.specs.Steps.{halvings, numbers_by, one_toward, section_numbers, steps_from}
use Rattle.frame_range.proofs.AddLemmas.{first_none}
use Rattle.frame_range.proofs.AgainLemmas.{in_range, read_set}
use Rattle.frame_range.proofs.TextLemmas.{neither_true}
use Rattle.row_codec.specs.RowLaws.{IsSigned}

-- ---- sections within their range

abbrev AreWithin : List Section → Type 0
AreWithin sections = AllByRecursion (λ s. has_past s ≡ false) sections

faultless_within : (place : ℕ) (listed : List ℤ) (ss : List Section) → fault_from place listed ss ≡ None → AreWithin ss
faultless_within place listed [] h = tt
faultless_within place listed (s ∷ ss) h =
    let both = first_none (fault_of place listed s) (fault_from (place + 1) (with_all listed (section_numbers s)) ss) h in
    (in_range place listed s both.0, faultless_within (place + 1) (with_all listed (section_numbers s)) ss both.1)

-- ---- numbers

-- three times the greatest number at most
abbrev IsNear : ℤ → Type 0
IsNear z = unsigned_abs z ≤ 3 * GREATEST

abbrev AreNear : List ℤ → Type 0
AreNear zs = AllByRecursion IsNear zs

abs_plus : (x y : ℤ) → unsigned_abs (x +ℤ y) ≤ unsigned_abs x + unsigned_abs y
abs_plus (pos m) (pos n) = omega (arith, ints)
abs_plus (pos m) (negsuc n) = omega (arith, ints)
abs_plus (negsuc m) (pos n) = omega (arith, ints)
abs_plus (negsuc m) (negsuc n) = omega (arith, ints)

abs_minus : (x y : ℤ) → unsigned_abs (x -ℤ y) ≤ unsigned_abs x + unsigned_abs y
abs_minus (pos m) (pos n) = omega (arith, ints)
abs_minus (pos m) (negsuc n) = omega (arith, ints)
abs_minus (negsuc m) (pos n) = omega (arith, ints)
abs_minus (negsuc m) (negsuc n) = omega (arith, ints)

-- so many steps don't lead farther than their lengths
steps_near : (first step : ℤ) (count : ℕ) → unsigned_abs first + count * unsigned_abs step ≤ 3 * GREATEST + unsigned_abs step → AreNear (steps_from first step count)
steps_near first step zero h = tt
steps_near first step (suc count) h =
    let more = suc-mul count (unsigned_abs step) in
    (omega (arith, h, more), steps_near (first +ℤ step) step count (omega (arith, h, more, abs_plus first step)))

within_greatest : (z : ℤ) → is_past z ≡ false → unsigned_abs z ≤ GREATEST
within_greatest z h = ltb-false GREATEST (unsigned_abs z) h

numbers_near : (first last step : ℤ) → is_past first ≡ false → is_past last ≡ false → AreNear (numbers_by first last step)
numbers_near first last step low high =
    let count = unsigned_abs (first -ℤ last) / unsigned_abs step in
    let more = suc-mul count (unsigned_abs step) in
    let one : count + 1 ≡ suc count = omega arith in
    let span = div-mul-le_self (unsigned_abs (first -ℤ last)) (unsigned_abs step) in
    steps_near first step (count + 1)
    (subst (λ (n : ℕ). unsigned_abs first + n * unsigned_abs step ≤ 3 * GREATEST + unsigned_abs step) (sym one)
    (omega (arith, more, span, abs_minus first last, within_greatest first low, within_greatest last high)))

both_near : (xs ys : List ℤ) → AreNear xs → AreNear ys → AreNear (xs ++ ys)
both_near [] ys near also = also
both_near (x ∷ xs) ys near also = (near.0, both_near xs ys near.1 also)

with_near : (b : Bool) (xs : List ℤ) (y : ℤ) → AreNear xs → IsNear y → AreNear (cond b xs (xs ++ y ∷ []))
with_near true xs y near here = near
with_near false xs y near here = both_near xs (y ∷ []) near (here, tt)

all_near : (xs ys : List ℤ) → AreNear xs → AreNear ys → AreNear (with_all xs ys)
all_near xs [] near also = near
all_near xs (y ∷ ys) near also = all_near (with_number xs y) ys (with_near (has xs y) xs y near also.0) also.1

flat_near : {X : Type 0} (numbers : X → List ℤ) (xs : List X) → ((x : X) → AreNear (numbers x)) → AreNear (flat_map numbers xs)
flat_near numbers [] each = tt
flat_near numbers (x ∷ xs) each = both_near (numbers x) (flat_map numbers xs) (each x) (flat_near numbers xs each)

kept_step : (b : Bool) (x : ℤ) (xs : List ℤ) → IsNear x → AreNear xs → AreNear (cond b (x ∷ xs) xs)
kept_step true x xs here near = (here, near)
kept_step false x xs here near = near

kept_near : (test : ℤ → Bool) (xs : List ℤ) → AreNear xs → AreNear (filter test xs)
kept_near test [] near = tt
kept_near test (x ∷ xs) near = kept_step (test x) x (filter test xs) near.0 (kept_near test xs near.1)

section_near : (s : Section) → has_past s ≡ false → AreNear (section_numbers s)
unfolding section_numbers
section_near (Single number) h = (omega (arith, within_greatest number h), tt)
section_near (Range first last) h =
    let both = neither_true (is_past first) (is_past last) h in
    numbers_near first last (one_toward first last) both.0 both.1
section_near (Stepped first last step) h =
    let outer = neither_true (is_past first || is_past last) (is_past step) h in
    let both = neither_true (is_past first) (is_past last) outer.0 in
    numbers_near first last step both.0 both.1
section_near (Inverse first last step) h =
    let outer = neither_true (is_past first || is_past last) (is_past step) h in
    let both = neither_true (is_past first) (is_past last) outer.0 in
    kept_near (λ z. not (has (numbers_by first last step) z)) (numbers_by first last (int_signum step)) (numbers_near first last (int_signum step) both.0 both.1)
section_near (Interleaved first last step) h =
    let outer = neither_true (is_past first || is_past last) (is_past step) h in
    let both = neither_true (is_past first) (is_past last) outer.0 in
    all_near [] (flat_map (numbers_by first last) (halvings (unsigned_abs step) step)) tt
    (flat_near (numbers_by first last) (halvings (unsigned_abs step) step) (λ by. numbers_near first last by both.0 both.1))

sections_near : (ss : List Section) → AreWithin ss → AreNear (flat_map section_numbers ss)
sections_near [] h = tt
sections_near (s ∷ ss) h = both_near (section_numbers s) (flat_map section_numbers ss) (section_near s h.0) (sections_near ss h.1)

set_near : (ss : List Section) → AreWithin ss → AreNear (numbers_of ss)
unfolding numbers_of
set_near ss h = all_near [] (flat_map section_numbers ss) tt (sections_near ss h)

range_by : (text : List ℕ) (r : Result (List Section) RangeFault) → set_of text ≡ r → AreNear (numbers_of (sections_in r))
range_by text (Ok sections) is = set_near sections (faultless_within 1 [] sections (read_set text sections is).faultless)
range_by text (Err fault) is = set_near [] tt

range_near : (text : List ℕ) → AreNear (range_numbers text)
unfolding range_numbers
range_near text = range_by text (set_of text) refl

near_at : (zs : List ℤ) (n : ℕ) (z : ℤ) → AreNear zs → slice_get zs n ≡ Some z → IsNear z
near_at [] n z near at = absurd (none-some z at)
near_at (x ∷ xs) zero z near at = subst IsNear (same_Some x z at) near.0
near_at (x ∷ xs) (suc n) z near at = near_at xs n z near.1 at

pub signed_within : (z : ℤ) → unsigned_abs z ≤ 2147483647 → IsSigned z
signed_within (pos n) h = le-leb n 2147483647 h
signed_within (negsuc n) h = both_true (le-leb n 2147483647 (omega (arith, h))) refl

-- each number of a range is one of 32 bits with a sign
pub range_signed : (text : List ℕ) (n : ℕ) (z : ℤ) → slice_get (range_numbers text) n ≡ Some z → IsSigned z
range_signed text n z at = signed_within z (omega (arith, near_at (range_numbers text) n z (range_near text) at))
