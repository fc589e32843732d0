-- How many frames of a job are left, once those in some slots are done that weren't.
use Rattle.std.proofs.Common.{◌≡◌, ◌<◌, ℕ, zero, suc, ◌+◌, Bool, true, false, ◌&&◌, ◌||◌, eqb, nat_eq, List, [], ◌∷◌, Some, refl, sym, ap, subst, ◌∙◌, arith}
use Rattle.std.specs.List.{IsDistinct, AllByRecursion, count_by, slice_get}
use Rattle.std.proofs.lemmas.Bool.{eq-eqb, eqb-true, false≢true, ne_eqb}
use Rattle.farm_types.specs.declared.slot_row.SlotRow.{SlotRow}
use Rattle.farm_types.specs.Farm.{for_some}
use Rattle.depend_graph.proofs.Counts.{count_by-cons, one_if}
use Rattle.farm_depends.specs.Follow.{is_listed}
use Rattle.depend_book.proofs.OneCleared.{and_one}

-- how many slots pass, each with its place
abbrev pub total : (ℕ → SlotRow → Bool) → ℕ → List SlotRow → ℕ
total test place [] = 0
total test place (s ∷ ss) = one_if (test place s) + total test (place + 1) ss

pub total_none : (test : ℕ → SlotRow → Bool) (place : ℕ) (slots : List SlotRow) → ((n : ℕ) (s : SlotRow) → place < n + 1 → test n s ≡ false) → total test place slots ≡ 0
total_none test place [] none = refl
total_none test place (s ∷ ss) none = omega (arith, ap one_if (none place s (omega arith)), total_none test (place + 1) ss (λ n t above. none n t (omega (arith, above))))

-- two tests of which one holds at most, and never both
pub total_both : (a b c : ℕ → SlotRow → Bool) (place : ℕ) (slots : List SlotRow) → ((n : ℕ) (s : SlotRow) → slice_get slots n ≡ Some s → one_if (a (place + n) s) ≡ one_if (b (place + n) s) + one_if (c (place + n) s))
    → total a place slots ≡ total b place slots + total c place slots
total_both a b c place [] each = refl
total_both a b c place (s ∷ ss) each =
    let at : place + 0 ≡ place = omega arith in
    let here : one_if (a place s) ≡ one_if (b place s) + one_if (c place s) = subst (λ (n : ℕ). one_if (a n s) ≡ one_if (b n s) + one_if (c n s)) at (each 0 s refl) in
    let next = total_both a b c (place + 1) ss (λ n t there.
    let m : place + suc n ≡ place + 1 + n = omega arith in
    subst (λ (k : ℕ). one_if (a k t) ≡ one_if (b k t) + one_if (c k t)) m (each (suc n) t there)) in
    omega (arith, here, next)

-- one slot alone
and_none : (b : Bool) → (b && false) ≡ false
and_none true = refl
and_none false = refl

pub total_one : (test : SlotRow → Bool) (d place : ℕ) (slots : List SlotRow) → total (λ n s. test s && eqb (place + d) n) place slots ≡ one_if (for_some (slice_get slots d) test)
total_one test d place [] = refl
total_one test zero place (s ∷ ss) =
    let later = total_none (λ n t. test t && eqb (place + 0) n) (place + 1) ss (λ n t above. ap (λ (b : Bool). test t && b) (ne_eqb (place + 0) n (λ e. omega (arith, e, above))) ∙ and_none (test t)) in
    let here : (test s && eqb (place + 0) place) ≡ test s = ap (λ (b : Bool). test s && b) (eq-eqb (place + 0) place (omega arith)) ∙ and_one (test s) in
    omega (arith, later, ap one_if here)
total_one test (suc d) place (s ∷ ss) =
    let here : (test s && eqb (place + suc d) place) ≡ false = ap (λ (b : Bool). test s && b) (ne_eqb (place + suc d) place (λ e. omega (arith, e))) ∙ and_none (test s) in
    let m : place + suc d ≡ place + 1 + d = omega arith in
    let later = ap (λ (k : ℕ). total (λ n t. test t && eqb k n) (place + 1) ss) m ∙ total_one test d (place + 1) ss in
    omega (arith, ap one_if here, later)

-- those that are listed, each once
listed_apart : (d n : ℕ) (ds : List ℕ) → AllByRecursion (λ m. nat_eq d m ≡ false) ds → eqb d n ≡ true → is_listed ds n ≡ false
listed_apart d n [] apart is = refl
listed_apart d n (e ∷ es) apart is =
    let other : eqb e n ≡ false = ne_eqb e n (λ same. false≢true (sym apart.0 ∙ eq-eqb d e (eqb-true d n is ∙ sym same))) in
    ap (λ (b : Bool). b || is_listed es n) other ∙ listed_apart d n es apart.1 is

split_one : (t here rest : Bool) → (here ≡ true → rest ≡ false) → one_if (t && (here || rest)) ≡ one_if (t && here) + one_if (t && rest)
split_one false here rest apart = refl
split_one true true rest apart = sym (ap (λ (b : Bool). 1 + one_if b) (apart refl))
split_one true false rest apart = omega arith

pub total_listed : (test : SlotRow → Bool) (done : List ℕ) (slots : List SlotRow) → IsDistinct nat_eq done → total (λ n s. test s && is_listed done n) 0 slots ≡ count_by (λ d. for_some (slice_get slots d) test) done
unfolding IsDistinct
total_listed test [] slots differ = total_none (λ n s. test s && false) 0 slots (λ n s above. and_none (test s))
total_listed test (d ∷ ds) slots differ =
    let here : d ≡ 0 + d = omega arith in
    omega (
      arith,
      total_both (λ n s. test s && (eqb d n || is_listed ds n)) (λ n s. test s && eqb d n) (λ n s. test s && is_listed ds n) 0 slots (λ n s at. split_one (test s) (eqb d (0 + n)) (is_listed ds (0 + n)) (listed_apart d (0 + n) ds differ.0)),
      ap (λ (k : ℕ). total (λ n s. test s && eqb k n) 0 slots) here ∙ total_one test d 0 slots,
      total_listed test ds slots differ.1,
      count_by-cons (λ m. for_some (slice_get slots m) test) d ds,
    )
