-- What a sort makes of keys that differ.
use Rattle.std.proofs.Common.{◌≡◌, ℕ, zero, suc, ◌+◌, ◌<◌, ◌≤◌, ◌||◌, Bool, true, false, cond, eqb, ltb, List, [], ◌∷◌, refl, sym, ap, subst, ◌∙◌, ◌⊎◌, inl, inr, arith}
use Rattle.std.specs.List.{list_any, sum_by}
use Rattle.std.specs.List.Sorted.{IsNonDecreasing, IsPermutation}
use Rattle.std.proofs.lemmas.Bool.{cases_eq, false≢true, eq-eqb, ne_eqb}
use Rattle.std.proofs.lemmas.List.Sorted.{sum_by-IsPermutation}
use Rattle.std.proofs.lemmas.List.Sums.{sum_by-cons}
use Rattle.farm_types.specs.Rising.{IsRising}
use Rattle.farm_types.proofs.Searched.{rising_keys}
use Rattle.job_index.specs.Keys.{AreKeys, itself, put_key, sorted}
use Rattle.job_index.proofs.KeyLists.{put_rising}
use Rattle.job_index.proofs.PutKeys.{none-put}

none_sorted : (test : ℕ → Bool) (ks : List ℕ) → list_any test ks ≡ false → list_any test (sorted ks) ≡ false
none_sorted test [] none = refl
none_sorted test (k ∷ ks) none = by (test k) refl (none_sorted test ks)
  where
    by : (b : Bool) → test k ≡ b → (list_any test ks ≡ false → list_any test (sorted ks) ≡ false) → list_any test (put_key k (sorted ks)) ≡ false
    by true is later = absurd (false≢true (sym none ∙ ap (λ b. b || list_any test ks) is))
    by false is later = none-put test k (sorted ks) is (later (sym (ap (λ b. b || list_any test ks) is) ∙ none))

pub sorted_rising : (ks : List ℕ) → AreKeys ks → IsRising itself 0 (sorted ks) 18446744073709551616
sorted_rising [] keys = omega arith
sorted_rising (k ∷ ks) keys = put_rising 0 k 18446744073709551616 (sorted ks) (sorted_rising ks keys.2) (omega arith) keys.0 (none_sorted (λ (n : ℕ). eqb n k) ks keys.1)

-- how often a key stands in a list
abbrev weight : ℕ → ℕ → ℕ
weight s k = cond (eqb k s) 1 0

weight_same : (s k : ℕ) → k ≡ s → weight s k ≡ 1
weight_same s k is = ap (λ b. cond b 1 0) (eq-eqb k s is)

weight_other : (s k : ℕ) → (k ≡ s → ⊥) → weight s k ≡ 0
weight_other s k apart = ap (λ b. cond b 1 0) (ne_eqb k s apart)

put_weight : (s key : ℕ) (ks : List ℕ) → sum_by (weight s) (put_key key ks) ≡ weight s key + sum_by (weight s) ks
put_weight s key [] = sum_by-cons (weight s) key []
put_weight s key (k ∷ ks) = by (ltb key k) refl (put_weight s key ks)
  where
    by : (b : Bool) → ltb key k ≡ b → sum_by (weight s) (put_key key ks) ≡ weight s key + sum_by (weight s) ks → sum_by (weight s) (put_key key (k ∷ ks)) ≡ weight s key + sum_by (weight s) (k ∷ ks)
    by true is later = ap (λ b. sum_by (weight s) (cond b (key ∷ k ∷ ks) (k ∷ put_key key ks))) is ∙ sum_by-cons (weight s) key (k ∷ ks)
    by false is later =
        ap (λ b. sum_by (weight s) (cond b (key ∷ k ∷ ks) (k ∷ put_key key ks))) is
        ∙ omega (arith, sum_by-cons (weight s) k (put_key key ks), sum_by-cons (weight s) k ks, later)

sorted_weight : (s : ℕ) (ks : List ℕ) → sum_by (weight s) (sorted ks) ≡ sum_by (weight s) ks
sorted_weight s [] = refl
sorted_weight s (k ∷ ks) = omega (arith, put_weight s k (sorted ks), sum_by-cons (weight s) k ks, sorted_weight s ks)

rest_rises : (x : ℕ) (xs : List ℕ) → IsNonDecreasing (x ∷ xs) → IsNonDecreasing xs
rest_rises x xs rises = λ i j d low within. rises (suc i) (suc j) d (omega arith) (omega arith)

skip : (x y : ℕ) (ys : List ℕ) → IsNonDecreasing (x ∷ y ∷ ys) → IsNonDecreasing (x ∷ ys)
skip x y ys rises zero zero d low within = rises 0 0 d (omega arith) (omega arith)
skip x y ys rises zero (suc j) d low within = rises 0 (suc (suc j)) d (omega arith) (omega arith)
skip x y ys rises (suc i) zero d low within = absurd (omega arith)
skip x y ys rises (suc i) (suc j) d low within = rises (suc (suc i)) (suc (suc j)) d (omega arith) (omega arith)

-- the first is the least
least : (x : ℕ) (xs : List ℕ) (s : ℕ) → IsNonDecreasing (x ∷ xs) → 1 ≤ sum_by (weight s) xs → x ≤ s
least x [] s rises some = absurd (omega (arith, some))
least x (y ∷ ys) s rises some = by (cases_eq y s) (λ more. least x ys s (skip x y ys rises) more)
  where
    by : (y ≡ s) ⊎ (y ≡ s → ⊥) → (1 ≤ sum_by (weight s) ys → x ≤ s) → x ≤ s
    by (inl same) later = subst (λ (n : ℕ). x ≤ n) same (rises 0 1 x (omega arith) (omega arith))
    by (inr apart) later = later (omega (arith, some, sum_by-cons (weight s) y ys, weight_other s y apart))

first_least : (x y : ℕ) (xs ys : List ℕ) → IsNonDecreasing (x ∷ xs) → sum_by (weight y) (x ∷ xs) ≡ sum_by (weight y) (y ∷ ys) → x ≤ y
first_least x y xs ys rises same = by (cases_eq x y)
  where
    by : (x ≡ y) ⊎ (x ≡ y → ⊥) → x ≤ y
    by (inl e) = omega (arith, e)
    by (inr apart) = least x xs y rises (omega (arith, same, sum_by-cons (weight y) x xs, sum_by-cons (weight y) y ys, weight_other y x apart, weight_same y y refl))

-- lists in order with the same keys are one
one_list : (xs ys : List ℕ) → IsNonDecreasing xs → IsNonDecreasing ys → ((s : ℕ) → sum_by (weight s) xs ≡ sum_by (weight s) ys) → xs ≡ ys
one_list [] [] first second same = refl
one_list [] (y ∷ ys) first second same = absurd (omega (arith, same y, sum_by-cons (weight y) y ys, weight_same y y refl))
one_list (x ∷ xs) [] first second same = absurd (omega (arith, same x, sum_by-cons (weight x) x xs, weight_same x x refl))
one_list (x ∷ xs) (y ∷ ys) first second same =
    let below = first_least x y xs ys first (same y) in
    let above = first_least y x ys xs second (sym (same x)) in
    let head : x ≡ y = omega (arith, below, above) in
    let tail = one_list xs ys (rest_rises x xs first) (rest_rises y ys second) (λ s. omega (arith, same s, sum_by-cons (weight s) x xs, sum_by-cons (weight s) y ys, ap (weight s) head)) in
    λ i. head i ∷ tail i

-- what a sort makes of keys that differ
pub sorted_is : (ks ys : List ℕ) → AreKeys ks → IsPermutation ks ys → IsNonDecreasing ys → ys ≡ sorted ks
sorted_is ks ys keys moved rises =
    one_list ys (sorted ks) rises (rising_keys itself (sorted ks) 0 18446744073709551616 (sorted_rising ks keys))
    (λ s. sum_by-IsPermutation (weight s) ks ys moved ∙ sym (sorted_weight s ks))
