-- A binary search by keys that rise ends at the place of the first item with the key, or says that there is none.
use Rattle.std.proofs.Common.{◌≡◌, ℕ, zero, suc, ◌+◌, ◌<◌, ◌≤◌, eqb, leb, ltb, true, false, List, [], ◌∷◌, length, get_or, Result, Ok, Err, ◌⊎◌, inl, inr, refl, sym, arith}
use Rattle.std.specs.List.{position_or_len}
use Rattle.std.specs.Result.{result_unwrap_or}
use Rattle.std.specs.List.Sorted.{IsSearchInRange, IsBinarySearchResult, IsNonDecreasingBy, IsPartitionPoint}
use Rattle.std.specs.Ordering.{nat_cmp, ordering_index}
use Rattle.std.specs.declared.cmp.Ordering.TheVariants.{Equal}
use Rattle.std.proofs.lemmas.Bool.{cases_eq, cases_lt, eq-eqb, ne_eqb}
use Rattle.std.proofs.lemmas.Bool.Decides.{nat_tests}
use Rattle.std.proofs.lemmas.Cmp.{ranked}
use Rattle.std.proofs.lemmas.List.Sums.{position_or_len_is}
use Rattle.farm_types.specs.Rising.{IsRising}

module _ {X : Type 0} (key : X → ℕ) where
  -- no key is below where they begin
  pub at_least : (low : ℕ) (xs : List X) (high i : ℕ) (d : X) → IsRising key low xs high → i < length xs → low ≤ key (get_or xs i d)
  at_least low [] high i d rise within = absurd (omega arith)
  at_least low (x ∷ xs) high zero d rise within = rise.0
  at_least low (x ∷ xs) high (suc i) d rise within = omega (arith, rise.0, at_least (key x + 1) xs high i d rise.1 (omega arith))

  pub rises : (low : ℕ) (xs : List X) (high i j : ℕ) (d : X) → IsRising key low xs high → i < j → j < length xs → key (get_or xs i d) < key (get_or xs j d)
  rises low [] high i j d rise less within = absurd (omega arith)
  rises low (x ∷ xs) high i zero d rise less within = absurd (omega arith)
  rises low (x ∷ xs) high zero (suc j) d rise less within = omega (arith, at_least (key x + 1) xs high j d rise.1 (omega arith))
  rises low (x ∷ xs) high (suc i) (suc j) d rise less within = rises (key x + 1) xs high i j d rise.1 (omega arith) (omega arith)

  module _ (xs : List X) (low high : ℕ) (rise : IsRising key low xs high) (k : ℕ) where
    keys_rise : (i j : ℕ) (d : X) → i ≤ j → j < length xs → key (get_or xs i d) ≤ key (get_or xs j d)
    keys_rise i j d le within = elim (cases_eq i j) [
      | inl same ↦ rw same (omega arith)
      | inr apart ↦ omega (arith, rises low xs high i j d rise (omega arith) within)
    ]

    comparisons_rise : IsNonDecreasingBy (λ x. ordering_index (nat_cmp (key x) k)) xs
    comparisons_rise i j d le within = let up = keys_rise i j d le within in grind (arith, nat_tests)

    found : (at : ℕ) (d : X) → at < length xs → nat_cmp (key (get_or xs at d)) k ≡ Equal → at ≡ position_or_len (λ x. eqb (key x) k) xs
    found at d within equal =
        let same : key (get_or xs at d) ≡ k = ranked _ k _ (sym equal) in
        sym (position_or_len_is (λ x. eqb (key x) k) xs at d (omega arith)
        (λ i less. ne_eqb _ k (λ e. absurd (omega (arith, rises low xs high i at d rise less within))))
        (λ in_range. eq-eqb _ k same))

    absent : (at : ℕ) (d : X) → IsBinarySearchResult (λ x. nat_cmp (key x) k) xs (Err at) → length xs ≡ position_or_len (λ x. eqb (key x) k) xs
    absent at d parted =
        sym (position_or_len_is (λ x. eqb (key x) k) xs (length xs) d (omega arith)
        (λ i less. ne_eqb _ k (λ e. apart i d less e (cases_lt i at)))
        (λ past. absurd (omega arith)))
      where
        apart : (i : ℕ) (d : X) → i < length xs → key (get_or xs i d) ≡ k → (i < at) ⊎ (at ≤ i) → ⊥
        apart i d within e (inl before) =
            let less : key (get_or xs i d) < k = ranked _ k _ (sym ((parted comparisons_rise).0 i d (omega arith) before)) in
            omega arith
        apart i d within e (inr behind) =
            let more : k < key (get_or xs i d) = ranked _ k _ (sym ((parted comparisons_rise).1 i d behind within)) in
            omega arith

  -- the place at which a binary search ended, and the list's length where it found nothing
  pub searched : (xs : List X) (low high : ℕ) → IsRising key low xs high → (k : ℕ) (r : Result ℕ ℕ) → IsSearchInRange r (length xs) → IsBinarySearchResult (λ x. nat_cmp (key x) k) xs r
      → result_unwrap_or r (length xs) ≡ position_or_len (λ x. eqb (key x) k) xs
  searched [] low high rise k (Ok at) bound position = absurd (omega (arith, bound))
  searched [] low high rise k (Err at) bound position = refl
  searched (y ∷ ys) low high rise k (Ok at) bound position = found (y ∷ ys) low high rise k at y bound (position y)
  searched (y ∷ ys) low high rise k (Err at) bound position = absent (y ∷ ys) low high rise k at y position

  pub rising_keys : (xs : List X) (low high : ℕ) → IsRising key low xs high → IsNonDecreasingBy key xs
  rising_keys xs low high rise = keys_rise xs low high rise 0

  -- the answer of a partition by a bound of the keys
  pub parted_at : (xs : List X) (bound at : ℕ) → at ≤ length xs → IsPartitionPoint (λ x. leb (key x) bound ≡ true) (λ x. leb (key x) bound ≡ false) xs at
      → at ≡ position_or_len (λ x. ltb bound (key x)) xs
  parted_at [] bound at within point = omega arith
  parted_at (y ∷ ys) bound at within point =
      sym (position_or_len_is (λ x. ltb bound (key x)) (y ∷ ys) at y within
      (λ i less. let below = point.0 i y (omega arith) less in grind (arith, nat_tests, below))
      (λ in_range. let above = point.1 at y (omega arith) in_range in grind (arith, nat_tests, above)))
