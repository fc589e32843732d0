-- The range of a load's layer: it is the text of a set as the set prints, and its numbers are those from 1 to n.
use Rattle.std.proofs.Common.{◌≡◌, ℕ, zero, suc, ◌+◌, ◌-◌, ◌/◌, ◌<◌, ◌≤◌, List, [], ◌∷◌, ◌++◌, length, Bool, true, false, refl, sym, ap, ◌∙◌, arith, subst, append_assoc, append-nil}
use Rattle.std.specs.Prelude.{if◌then◌else◌, ℤ, pos, ◌-ℤ◌, unsigned_abs, int_lt, Ok, Option, Some, None}
use Rattle.std.specs.Fmt.{digits}
use Rattle.std.specs.List.{list_any}
use Rattle.std.specs.Ordering.{int_eq}
use Rattle.std.proofs.lemmas.Bool.{le-ltb}
use Rattle.std.proofs.lemmas.Bool.Decides.{Decides-int_eq}
use Rattle.std.proofs.lemmas.Int.{ints}
use Rattle.std.proofs.lemmas.List.Folds.{list_any-append}
use Rattle.std.proofs.lemmas.Fmt.{length-decimal-le}
use Rattle.farm_types.specs.Ranges.{is_range_text, range_numbers}
use Rattle.farm_types.specs.declared.limits.TheConstants.{MOST_RANGE}
use Rattle.farm_types.proofs.Ranges.{numbers_said, range_formed}
use Rattle.frame_range.specs.declared.fault.RangeFault.{RangeFault}
use Rattle.frame_range.specs.declared.section.Section.{Section}
use Rattle.frame_range.specs.declared.section.Section.TheVariants.{Range}
use Rattle.frame_range.specs.Checks.{has_past}
use Rattle.frame_range.specs.Places.{has, with_all}
use Rattle.frame_range.specs.Printed.{printed, printed_section}
use Rattle.frame_range.specs.Sets.{numbers_of, set_of, fault_of, fault_from, IsSet}
use Rattle.frame_range.specs.Steps.{steps_from, section_numbers}
use Rattle.frame_range.specs.declared.limits.TheConstants.{GREATEST, MOST_NUMBERS}
use Rattle.frame_range.proofs.AddLemmas.{fault_none}
use Rattle.frame_range.proofs.AgainLemmas.{set_again}
use Rattle.frame_range.proofs.DistinctLemmas.{has_any}
use Rattle.frame_range.proofs.EmptyLemmas.{range_some}
use Rattle.frame_range.proofs.OtherLemmas.{test_false}
use Rattle.frame_range.proofs.TextLemmas.{or_false}
use Rattle.farm_gen.specs.Load.{IsLoad, load_range, numbers_from}

-- ---- the numbers

steps_are : (first count : ℕ) → steps_from (pos first) (pos 1) count ≡ numbers_from first count
steps_are first zero = refl
steps_are first (suc count) = ap (λ zs. pos first ∷ zs) (steps_are (first + 1) count)

pub numbers_long : (first count : ℕ) → length (numbers_from first count) ≡ count
numbers_long first zero = refl
numbers_long first (suc count) = ap suc (numbers_long (first + 1) count)

section_is : (n : ℕ) → 1 ≤ n → section_numbers (Range (pos 1) (pos n)) ≡ numbers_from 1 n
unfolding section_numbers
section_is n some =
    let up : int_lt (pos n) (pos 1) ≡ false = le-ltb n 1 some in
    let size : unsigned_abs (pos 1 -ℤ pos n) ≡ n - 1 = omega (arith, ints) in
    let count : unsigned_abs (pos 1 -ℤ pos n) / 1 + 1 ≡ n = omega (arith, size) in
    rw (up, count) (steps_are 1 n)

differ : (a b : ℕ) → b < a → int_eq (pos a) (pos b) ≡ false
differ a b low =
    test_false (int_eq (pos a) (pos b)) (λ e. let same : a ≡ b = ap unsigned_abs ((Decides-int_eq (pos a) (pos b)).0 e) in omega (arith, same))

-- the list has no number from this one on
abbrev EndsBefore : ℕ → List ℤ → Type 0
EndsBefore first xs = (k : ℕ) → first ≤ k → has xs (pos k) ≡ false

ends_later : (first : ℕ) (xs : List ℤ) → EndsBefore first xs → EndsBefore (first + 1) (xs ++ pos first ∷ [])
ends_later first xs before k past =
    has_any (pos k) (xs ++ pos first ∷ [])
    ∙ list_any-append (int_eq (pos k)) xs (pos first ∷ [])
    ∙ or_false (list_any (int_eq (pos k)) xs) (list_any (int_eq (pos k)) (pos first ∷ [])) (sym (has_any (pos k) xs) ∙ before k (omega arith))
    (or_false (int_eq (pos k) (pos first)) false (differ k first (omega arith)) refl)

-- numbers from one on stand once
all_added : (xs : List ℤ) (first count : ℕ) → EndsBefore first xs → with_all xs (numbers_from first count) ≡ xs ++ numbers_from first count
all_added xs first zero before = sym (append-nil xs)
all_added xs first (suc count) before =
    ap (λ (b : Bool). with_all (if b then xs else xs ++ pos first ∷ []) (numbers_from (first + 1) count)) (before first (omega arith))
    ∙ all_added (xs ++ pos first ∷ []) (first + 1) count (ends_later first xs before)
    ∙ append_assoc xs (pos first ∷ []) (numbers_from (first + 1) count)

listed : (n : ℕ) → 1 ≤ n → with_all [] (section_numbers (Range (pos 1) (pos n))) ≡ numbers_from 1 n
listed n some = ap (with_all []) (section_is n some) ∙ all_added [] 1 n (λ k past. refl)

-- ---- the set

abbrev sections : ℕ → List Section
sections n = Range (pos 1) (pos n) ∷ []

not_past : (n : ℕ) → n ≤ 5000 → has_past (Range (pos 1) (pos n)) ≡ false
not_past n most = or_false _ _ refl (le-ltb GREATEST n (omega arith))

no_fault : (n : ℕ) → IsLoad n → fault_of 1 [] (Range (pos 1) (pos n)) ≡ None
no_fault n load =
    let long : length (with_all [] (section_numbers (Range (pos 1) (pos n)))) ≡ n = ap length (listed n load.some) ∙ numbers_long 1 n in
    fault_none 1 [] (Range (pos 1) (pos n)) (not_past n load.within) refl refl (sym (range_some (pos 1) (pos n)))
    (subst (λ (m : ℕ). m ≤ MOST_NUMBERS) (sym long) (omega (arith, load.within)))

faultless_one : (s : Section) (o : Option RangeFault) → fault_of 1 [] s ≡ o → o ≡ None → fault_from 1 [] (s ∷ []) ≡ None
faultless_one s o is none = ap (λ (p : Option RangeFault). elim p as (λ _. Option RangeFault) [ Some fault ↦ Some fault | None ↦ None ]) (is ∙ none)

is_set : (n : ℕ) → IsLoad n → IsSet (sections n)
is_set n load = record { faultless = faultless_one (Range (pos 1) (pos n)) (fault_of 1 [] (Range (pos 1) (pos n))) refl (no_fault n load); some = omega arith }

printed_is : (n : ℕ) → printed (sections n) ≡ load_range n
unfolding printed_section digits
printed_is n = append-nil (load_range n)

set_is : (n : ℕ) → IsLoad n → set_of (load_range n) ≡ Ok (sections n)
set_is n load = ap set_of (sym (printed_is n)) ∙ set_again (sections n) (is_set n load)

numbers_are : (n : ℕ) → IsLoad n → numbers_of (sections n) ≡ numbers_from 1 n
unfolding numbers_of
numbers_are n load = ap (with_all []) (append-nil (section_numbers (Range (pos 1) (pos n)))) ∙ listed n load.some

-- ---- the layer's text and numbers

load_short : (n : ℕ) → IsLoad n → length (load_range n) ≤ MOST_RANGE
load_short n load = omega (arith, length-decimal-le 4 n (omega arith) (omega (arith, load.within)) (omega (arith, load.within)))

pub range_text : (n : ℕ) → IsLoad n → is_range_text (load_range n) ≡ true
range_text n load = range_formed (load_range n) (sections n) (set_is n load) (sym (printed_is n)) (load_short n load)

pub range_says : (n : ℕ) → IsLoad n → range_numbers (load_range n) ≡ numbers_from 1 n
range_says n load = numbers_said (load_range n) (sections n) (set_is n load) ∙ numbers_are n load
