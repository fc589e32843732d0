-- Lists of which one item at most passes a test.
use Rattle.std.proofs.Common.{◌≡◌, ◌<◌, ◌≤◌, ℕ, suc, zero, ◌+◌, Bool, true, false, ◌||◌, List, [], ◌∷◌, map, Some, refl, sym, ap, subst, ◌∙◌, arith}
use Rattle.std.specs.List.{filter, find, list_any, position_or_len, slice_get}
use Rattle.std.proofs.lemmas.Bool.{false≢true, or_from}
use Rattle.std.proofs.lemmas.Option.{none-some, same_Some}
use Rattle.farm_types.specs.Farm.{changed_at}
use Rattle.farm_types.specs.Rising.{IsRising}
use Rattle.farm_types.proofs.ChangedLists.{changed_at_suc}

-- behind one that passes none does
abbrev pub IsOnce : {X : Type 0} → (X → Bool) → List X → Type 0
IsOnce test [] = Unit {0}
IsOnce test (x ∷ xs) = (test x ≡ true → list_any test xs ≡ false) × IsOnce test xs

module _ {X : Type 0} (key : X → ℕ) (test : X → Bool) (k : ℕ) (only : (x : X) → test x ≡ true → key x ≡ k) where
  fails_above : (b : Bool) (x : X) → test x ≡ b → k < key x → test x ≡ false
  fails_above true x is above = absurd (omega (arith, only x is, above))
  fails_above false x is above = is

  none_above : (low : ℕ) (xs : List X) (high : ℕ) → IsRising key low xs high → k < low → list_any test xs ≡ false
  none_above low [] high rise above = refl
  none_above low (x ∷ xs) high rise above =
      or_from (test x) (list_any test xs) (fails_above (test x) x refl (omega (arith, rise.0, above))) (none_above (key x + 1) xs high rise.1 (omega (arith, rise.0, above)))

  -- where keys rise, one item at most has a key
  pub once_rising : (low : ℕ) (xs : List X) (high : ℕ) → IsRising key low xs high → IsOnce test xs
  once_rising low [] high rise = tt
  once_rising low (x ∷ xs) high rise = ((λ is. none_above (key x + 1) xs high rise.1 (omega (arith, only x is))), once_rising (key x + 1) xs high rise.1)

module _ {X Y : Type 0} (test : X → Bool) (f g : X → Y) (change : Y → Y) (here : (x : X) → test x ≡ true → change (f x) ≡ g x) (apart : (x : X) → test x ≡ false → f x ≡ g x) where
  none_changed : (xs : List X) → list_any test xs ≡ false → map f xs ≡ map g xs
  none_changed [] none = refl
  none_changed (x ∷ xs) none = step (test x) refl (none_changed xs)
    where
      step : (b : Bool) → test x ≡ b → (list_any test xs ≡ false → map f xs ≡ map g xs) → map f (x ∷ xs) ≡ map g (x ∷ xs)
      step true is rest = let some : (true || list_any test xs) ≡ false = subst (λ (b : Bool). (b || list_any test xs) ≡ false) is none in absurd (false≢true (sym some))
      step false is rest =
          let later : (false || list_any test xs) ≡ false = subst (λ (b : Bool). (b || list_any test xs) ≡ false) is none in
          let first = apart x is in
          let others = rest later in
          λ i. first i ∷ others i

  -- the change at the item that passes
  pub changed_mapped : (xs : List X) → IsOnce test xs → changed_at (map f xs) (position_or_len test xs) change ≡ map g xs
  changed_mapped [] once = refl
  changed_mapped (x ∷ xs) once = step (test x) refl (changed_mapped xs once.1)
    where
      step : (b : Bool) → test x ≡ b → changed_at (map f xs) (position_or_len test xs) change ≡ map g xs → changed_at (map f (x ∷ xs)) (position_or_len test (x ∷ xs)) change ≡ map g (x ∷ xs)
      step true is rest =
          let place : position_or_len test (x ∷ xs) ≡ 0 = rw is refl in
          let first = here x is in
          let others = none_changed xs (once.0 is) in
          ap (λ (n : ℕ). changed_at (map f (x ∷ xs)) n change) place ∙ (λ i. first i ∷ others i)
      step false is rest =
          let place : position_or_len test (x ∷ xs) ≡ suc (position_or_len test xs) = rw is (omega arith) in
          let first = apart x is in
          ap (λ (n : ℕ). changed_at (map f (x ∷ xs)) n change) place ∙ changed_at_suc (f x) (map f xs) (position_or_len test xs) change ∙ (λ i. first i ∷ rest i)

-- ---- what is found by its key

module _ {X : Type 0} (key : X → ℕ) where
  least_at : (low : ℕ) (xs : List X) (high n : ℕ) (x : X) → IsRising key low xs high → slice_get xs n ≡ Some x → low ≤ key x
  least_at low [] high n x rise at = absurd (none-some x at)
  least_at low (y ∷ ys) high zero x rise at = subst (λ (z : X). low ≤ key z) (same_Some y x at) rise.0
  least_at low (y ∷ ys) high (suc n) x rise at = omega (arith, rise.0, least_at (key y + 1) ys high n x rise.1 at)

  module _ (test : X → Bool) (x : X) (only : (y : X) → test y ≡ true → key y ≡ key x) (passes : test x ≡ true) where
    -- where keys rise, an item is found by its key
    pub found_rising : (low : ℕ) (xs : List X) (high n : ℕ) → IsRising key low xs high → slice_get xs n ≡ Some x → find test xs ≡ Some x
    found_rising low [] high n rise at = absurd (none-some x at)
    found_rising low (y ∷ ys) high zero rise at =
        let is : y ≡ x = same_Some y x at in
        let first : test y ≡ true = ap test is ∙ passes in
        rw first (ap (λ (z : X). Some z) is)
    found_rising low (y ∷ ys) high (suc n) rise at = step (test y) refl (found_rising (key y + 1) ys high n rise.1 at)
      where
        step : (b : Bool) → test y ≡ b → find test ys ≡ Some x → find test (y ∷ ys) ≡ Some x
        step true is rest = let later = least_at (key y + 1) ys high n x rise.1 at in absurd (omega (arith, only y is, later))
        step false is rest = rw is rest

-- what is in a part of a list is in the list
pub filter_in : {X : Type 0} (test : X → Bool) (xs : List X) (n : ℕ) (x : X) → slice_get (filter test xs) n ≡ Some x → (m : ℕ) × (slice_get xs m ≡ Some x)
filter_in test [] n x at = absurd (none-some x at)
filter_in {X} test (y ∷ ys) n x at = step (test y) refl n at (λ k there. filter_in test ys k x there)
  where
    step : (b : Bool) → test y ≡ b → (k : ℕ) → slice_get (filter test (y ∷ ys)) k ≡ Some x → ((i : ℕ) → slice_get (filter test ys) i ≡ Some x → (m : ℕ) × (slice_get ys m ≡ Some x)) → (m : ℕ) × (slice_get (y ∷ ys) m ≡ Some x)
    step true is zero there rest = let first : slice_get (y ∷ filter test ys) 0 ≡ Some x = rw is at there in (0, first)
    step true is (suc k) there rest = let later : slice_get (y ∷ filter test ys) (suc k) ≡ Some x = rw is at there in let found = rest k later in (suc found.0, found.1)
    step false is k there rest = let later : slice_get (filter test ys) k ≡ Some x = rw is at there in let found = rest k later in (suc found.0, found.1)
