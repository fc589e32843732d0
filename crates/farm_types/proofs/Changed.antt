-- A list with the item at one place changed: its length, its items, and a sum over it.
use Rattle.std.proofs.Common.{◌≡◌, ◌≢◌, ℕ, suc, zero, ◌+◌, List, [], ◌∷◌, ◌++◌, length, Option, Some, None, refl, sym, ap, subst, ◌∙◌, ◌⊎◌, inl, inr, Bool, true, false, eqb, map, option_map}
use Rattle.std.specs.List.{slice_get, slice_set, sum_by}
use Rattle.std.proofs.Math.ListN.{set, length-set}
use Rattle.std.proofs.lemmas.Option.{none-some, same_Some, slice_get_within, get_or_from_slice_get, slice_get-map}
use Rattle.std.proofs.lemmas.List.Sums.{sum_by-set}
use Rattle.std.proofs.lemmas.Bool.{eqb-true, eqb-false}
use Rattle.farm_types.specs.Farm.{changed_by, changed_at}

-- where the place has an item, that item is set
pub changed_at_is : {X : Type 0} (xs : List X) (i : ℕ) (change : X → X) (x : X) → slice_get xs i ≡ Some x → changed_at xs i change ≡ slice_set xs i (change x)
changed_at_is xs i change x at = ap (changed_by xs i change) at

length-changed_by : {X : Type 0} (xs : List X) (i : ℕ) (change : X → X) (o : Option X) → length (changed_by xs i change o) ≡ length xs
length-changed_by xs i change None = refl
length-changed_by xs i change (Some x) = length-set xs i (change x)

pub length-changed_at : {X : Type 0} (xs : List X) (i : ℕ) (change : X → X) → length (changed_at xs i change) ≡ length xs
length-changed_at xs i change = length-changed_by xs i change (slice_get xs i)

-- the item at a place that is set, and at another
pub slice_get-set_same : {X : Type 0} (xs : List X) (i : ℕ) (x y : X) → slice_get xs i ≡ Some x → slice_get (slice_set xs i y) i ≡ Some y
slice_get-set_same [] i x y at = absurd (none-some x at)
slice_get-set_same (z ∷ zs) zero x y at = refl
slice_get-set_same (z ∷ zs) (suc i) x y at = slice_get-set_same zs i x y at

pub slice_get-set_other : {X : Type 0} (xs : List X) (i k : ℕ) (y : X) → k ≢ i → slice_get (slice_set xs i y) k ≡ slice_get xs k
slice_get-set_other [] i k y apart = refl
slice_get-set_other (z ∷ zs) zero zero y apart = absurd (apart refl)
slice_get-set_other (z ∷ zs) zero (suc k) y apart = refl
slice_get-set_other (z ∷ zs) (suc i) zero y apart = refl
slice_get-set_other (z ∷ zs) (suc i) (suc k) y apart = slice_get-set_other zs i k y (λ e. apart (ap suc e))

pub changed_at_same : {X : Type 0} (xs : List X) (i : ℕ) (change : X → X) (x : X) → slice_get xs i ≡ Some x → slice_get (changed_at xs i change) i ≡ Some (change x)
changed_at_same xs i change x at = rw at (slice_get-set_same xs i x (change x) at)

changed_by_other : {X : Type 0} (xs : List X) (i k : ℕ) (change : X → X) (o : Option X) → k ≢ i → slice_get (changed_by xs i change o) k ≡ slice_get xs k
changed_by_other xs i k change None apart = refl
changed_by_other xs i k change (Some x) apart = slice_get-set_other xs i k (change x) apart

pub changed_at_other : {X : Type 0} (xs : List X) (i k : ℕ) (change : X → X) → k ≢ i → slice_get (changed_at xs i change) k ≡ slice_get xs k
changed_at_other xs i k change apart = changed_by_other xs i k change (slice_get xs i) apart

-- the sum over the changed list has the changed item's weight for that of the old one
pub changed_at_sum : {X : Type 0} (weight : X → ℕ) (xs : List X) (i : ℕ) (change : X → X) (x : X) → slice_get xs i ≡ Some x → sum_by weight (changed_at xs i change) + weight x ≡ sum_by weight xs + weight (change x)
changed_at_sum weight xs i change x at =
    let e = sum_by-set weight xs i (change x) x (slice_get_within xs i x at) in
    let g = get_or_from_slice_get xs i x x at in
    rw at (rw g at e)

same_place : (b : Bool) (k i : ℕ) → eqb k i ≡ b → (k ≡ i) ⊎ (k ≢ i)
same_place true k i e = inl (eqb-true k i e)
same_place false k i e = inr (eqb-false k i e)

-- two places are the same or apart
pub places : (k i : ℕ) → (k ≡ i) ⊎ (k ≢ i)
places k i = same_place (eqb k i) k i refl

module _ {X : Type 0} (P : ℕ → X → Type 0) (xs : List X) (i : ℕ) (change : X → X) (here : (x : X) → slice_get xs i ≡ Some x → P i (change x)) (elsewhere : (k : ℕ) (x : X) → k ≢ i → slice_get xs k ≡ Some x → P k x) where
  changed_here : (o : Option X) (y : X) → slice_get xs i ≡ o → slice_get (changed_at xs i change) i ≡ Some y → P i y
  changed_here None y e at =
      let kept : changed_at xs i change ≡ xs = ap (changed_by xs i change) e in
      absurd (none-some y (sym e ∙ (sym (ap (λ ys. slice_get ys i) kept) ∙ at)))
  changed_here (Some x) y e at = subst (P i) (same_Some (change x) y (sym (changed_at_same xs i change x e) ∙ at)) (here x e)

  changed_there : (k : ℕ) (y : X) → (k ≡ i) ⊎ (k ≢ i) → slice_get (changed_at xs i change) k ≡ Some y → P k y
  changed_there k y (inl e) at = subst (λ (n : ℕ). P n y) (sym e) (changed_here (slice_get xs i) y refl (subst (λ (n : ℕ). slice_get (changed_at xs i change) n ≡ Some y) e at))
  changed_there k y (inr apart) at = elsewhere k y apart (sym (changed_at_other xs i k change apart) ∙ at)

  -- what holds of the changed item at its place, and of each other item at its own, holds of each item of the changed list
  pub changed_at_each : (k : ℕ) (y : X) → slice_get (changed_at xs i change) k ≡ Some y → P k y
  changed_at_each k y at = changed_there k y (places k i) at

mapped_at : {X : Type 0} (P : ℕ → X → Type 0) (xs : List X) (v : X → X) → ((k : ℕ) (x : X) → slice_get xs k ≡ Some x → P k (v x)) → (k : ℕ) (y : X) (o : Option X) → slice_get xs k ≡ o → option_map v o ≡ Some y → P k y
mapped_at P xs v each k y None e at = absurd (none-some y at)
mapped_at P xs v each k y (Some x) e at = subst (P k) (same_Some (v x) y at) (each k x e)

-- what holds of each item's image at its place holds of each item of the mapped list
pub mapped_each : {X : Type 0} (P : ℕ → X → Type 0) (xs : List X) (v : X → X) → ((k : ℕ) (x : X) → slice_get xs k ≡ Some x → P k (v x)) → (k : ℕ) (y : X) → slice_get (map v xs) k ≡ Some y → P k y
mapped_each P xs v each k y at = mapped_at P xs v each k y (slice_get xs k) refl (sym (slice_get-map v xs k) ∙ at)

-- what holds of each item, and of the new one past the last, holds of each item of the longer list
pub appended_each : {X : Type 0} (P : ℕ → X → Type 0) (xs : List X) (y : X) → ((k : ℕ) (x : X) → slice_get xs k ≡ Some x → P k x) → P (length xs) y → (k : ℕ) (x : X) → slice_get (xs ++ y ∷ []) k ≡ Some x → P k x
appended_each P [] y each last zero x at = subst (P 0) (same_Some y x at) last
appended_each P [] y each last (suc k) x at = absurd (none-some x at)
appended_each P (z ∷ zs) y each last zero x at = each 0 x at
appended_each P (z ∷ zs) y each last (suc k) x at = appended_each (λ n. P (suc n)) zs y (λ n w here. each (suc n) w here) last k x at
