-- Lists related item by item: what carries over from one to the other.
use Rattle.std.proofs.Common.{◌≡◌, ℕ, ◌≤◌, suc, zero, Bool, true, List, [], ◌∷◌, map, Some, refl, sym, subst, arith}
use Rattle.std.specs.List.{AllZip, list_all, slice_get, sum_by}
use Rattle.std.specs.Cmp.Derive.{both_true}
use Rattle.std.proofs.lemmas.List.Sums.{sum_by-cons}
use Rattle.std.proofs.lemmas.Option.{none-some, same_Some}
use Rattle.farm_types.specs.Farm.{changed_at}
use Rattle.farm_types.proofs.ChangedLists.{changed_at_suc}
use Rattle.farm_types.proofs.Lists.{and_both}
use Rattle.farm_types.proofs.Stays.{EachStays}

-- two weights that are alike
pub sum_alike : {X : Type 0} (weight other : X → ℕ) (xs : List X) → ((i : ℕ) (x : X) → slice_get xs i ≡ Some x → weight x ≡ other x) → sum_by weight xs ≡ sum_by other xs
sum_alike weight other [] each = refl
sum_alike weight other (x ∷ xs) each = omega (arith, sum_by-cons weight x xs, sum_by-cons other x xs, each 0 x refl, sum_alike weight other xs (λ i y at. each (suc i) y at))

module _ {X : Type 0} (R : X → X → Type 0) where
  -- a list and itself
  pub zip_same : ((x : X) → R x x) → (xs : List X) → AllZip R xs xs
  zip_same self [] = tt
  zip_same self (x ∷ xs) = (self x, zip_same self xs)

  -- a change of each item
  pub zip_map : (change : X → X) → ((x : X) → R x (change x)) → (xs : List X) → AllZip R xs (map change xs)
  zip_map change each [] = tt
  zip_map change each (x ∷ xs) = (each x, zip_map change each xs)

  -- a change of the item at a place
  pub zip_changed_at : ((x : X) → R x x) → (change : X → X) (xs : List X) (i : ℕ) → ((x : X) → slice_get xs i ≡ Some x → R x (change x)) → AllZip R xs (changed_at xs i change)
  zip_changed_at self change [] i here = tt
  zip_changed_at self change (x ∷ xs) zero here = (here x refl, zip_same self xs)
  zip_changed_at self change (x ∷ xs) (suc i) here =
      subst (AllZip R (x ∷ xs)) (sym (changed_at_suc x xs i change)) (self x, zip_changed_at self change xs i here)

  -- one after the other
  pub zip_then : ((x y z : X) → R x y → R y z → R x z) → (xs ys zs : List X) → AllZip R xs ys → AllZip R ys zs → AllZip R xs zs
  zip_then joined [] [] zs first second = second
  zip_then joined [] (y ∷ ys) zs first second = absurd first
  zip_then joined (x ∷ xs) [] zs first second = absurd first
  zip_then joined (x ∷ xs) (y ∷ ys) [] first second = absurd second
  zip_then joined (x ∷ xs) (y ∷ ys) (z ∷ zs) first second = (joined x y z first.0 second.0, zip_then joined xs ys zs first.1 second.1)

  -- each item stays at its place
  pub zip_stays : (xs ys : List X) → AllZip R xs ys → EachStays R xs ys
  zip_stays [] ys zip i x at = absurd (none-some x at)
  zip_stays (x ∷ xs) [] zip i y at = absurd zip
  zip_stays (x ∷ xs) (y ∷ ys) zip zero z at = (y, refl, subst (λ (w : X). R w y) (same_Some x z at) zip.0)
  zip_stays (x ∷ xs) (y ∷ ys) zip (suc i) z at = zip_stays xs ys zip.1 i z at

  -- each item of the second list is related to the one at its place in the first
  pub zip_was : (xs ys : List X) → AllZip R xs ys → (i : ℕ) (y : X) → slice_get ys i ≡ Some y → (x : X) × (slice_get xs i ≡ Some x) × R x y
  zip_was [] [] zip i y at = absurd (none-some y at)
  zip_was [] (z ∷ zs) zip i y at = absurd zip
  zip_was (x ∷ xs) [] zip i y at = absurd zip
  zip_was (x ∷ xs) (z ∷ zs) zip zero y at = (x, refl, subst (R x) (same_Some z y at) zip.0)
  zip_was (x ∷ xs) (z ∷ zs) zip (suc i) y at = zip_was xs zs zip.1 i y at

  -- a relation that follows from the first
  pub zip_weaker : (S : X → X → Type 0) → ((x y : X) → R x y → S x y) → (xs ys : List X) → AllZip R xs ys → AllZip S xs ys
  zip_weaker S weaker [] [] zip = tt
  zip_weaker S weaker [] (y ∷ ys) zip = absurd zip
  zip_weaker S weaker (x ∷ xs) [] zip = absurd zip
  zip_weaker S weaker (x ∷ xs) (y ∷ ys) zip = (weaker x y zip.0, zip_weaker S weaker xs ys zip.1)

  -- a test that related items pass alike
  pub zip_all : (test : X → Bool) → ((x y : X) → R x y → test x ≡ true → test y ≡ true) → (xs ys : List X) → AllZip R xs ys → list_all test xs ≡ true → list_all test ys ≡ true
  zip_all test each [] [] zip all = refl
  zip_all test each [] (y ∷ ys) zip all = absurd zip
  zip_all test each (x ∷ xs) [] zip all = absurd zip
  zip_all test each (x ∷ xs) (y ∷ ys) zip all =
      let both = and_both (test x) (list_all test xs) all in
      both_true (each x y zip.0 both.0) (zip_all test each xs ys zip.1 both.1)

  -- a weight that related items have alike
  pub zip_sum : (weight : X → ℕ) → ((x y : X) → R x y → weight y ≡ weight x) → (xs ys : List X) → AllZip R xs ys → sum_by weight ys ≡ sum_by weight xs
  zip_sum weight each [] [] zip = refl
  zip_sum weight each [] (y ∷ ys) zip = absurd zip
  zip_sum weight each (x ∷ xs) [] zip = absurd zip
  zip_sum weight each (x ∷ xs) (y ∷ ys) zip =
      omega (arith, sum_by-cons weight x xs, sum_by-cons weight y ys, each x y zip.0, zip_sum weight each xs ys zip.1)

  -- a weight that no item has more of than the one that it was
  pub zip_sum_most : (weight : X → ℕ) → ((x y : X) → R x y → weight y ≤ weight x) → (xs ys : List X) → AllZip R xs ys → sum_by weight ys ≤ sum_by weight xs
  zip_sum_most weight each [] [] zip = omega arith
  zip_sum_most weight each [] (y ∷ ys) zip = absurd zip
  zip_sum_most weight each (x ∷ xs) [] zip = absurd zip
  zip_sum_most weight each (x ∷ xs) (y ∷ ys) zip =
      omega (arith, sum_by-cons weight x xs, sum_by-cons weight y ys, each x y zip.0, zip_sum_most weight each xs ys zip.1)
