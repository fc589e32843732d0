-- A whole list with the item at one place changed: when it stays, when two changes are one, and what is read of all its items.
use Rattle.std.proofs.Common.{◌≡◌, ℕ, suc, zero, ◌<◌, Bool, true, List, [], ◌∷◌, map, length, Option, Some, None, refl, sym, ap, ◌∙◌, arith}
use Rattle.std.specs.List.{slice_get, slice_set, list_all}
use Rattle.farm_types.specs.Farm.{changed_by, changed_at}
use Rattle.farm_types.proofs.Changed.{changed_at_each}
use Rattle.farm_types.proofs.Lists.{list_all-at, list_all-from_at}

changed_by_suc : {X : Type 0} (x : X) (xs : List X) (i : ℕ) (change : X → X) (o : Option X) → changed_by (x ∷ xs) (suc i) change o ≡ x ∷ changed_by xs i change o
changed_by_suc x xs i change None = refl
changed_by_suc x xs i change (Some y) = refl

-- a change behind the first item
pub changed_at_suc : {X : Type 0} (x : X) (xs : List X) (i : ℕ) (change : X → X) → changed_at (x ∷ xs) (suc i) change ≡ x ∷ changed_at xs i change
changed_at_suc x xs i change = changed_by_suc x xs i change (slice_get xs i)

-- a change that leaves the item at the place leaves the list
pub changed_at_kept : {X : Type 0} (xs : List X) (i : ℕ) (change : X → X) → ((x : X) → slice_get xs i ≡ Some x → change x ≡ x) → changed_at xs i change ≡ xs
changed_at_kept [] i change same = refl
changed_at_kept {X} (x ∷ xs) zero change same = ap (λ (y : X). y ∷ xs) (same x refl)
changed_at_kept {X} (x ∷ xs) (suc i) change same = changed_at_suc x xs i change ∙ ap (λ (ys : List X). x ∷ ys) (changed_at_kept xs i change same)

-- two changes that agree at the item there are one
pub changed_at_alike : {X : Type 0} (xs : List X) (i : ℕ) (f g : X → X) → ((x : X) → slice_get xs i ≡ Some x → f x ≡ g x) → changed_at xs i f ≡ changed_at xs i g
changed_at_alike [] i f g same = refl
changed_at_alike {X} (x ∷ xs) zero f g same = ap (λ (y : X). y ∷ xs) (same x refl)
changed_at_alike {X} (x ∷ xs) (suc i) f g same = changed_at_suc x xs i f ∙ ap (λ (ys : List X). x ∷ ys) (changed_at_alike xs i f g same) ∙ sym (changed_at_suc x xs i g)

-- a test of all items holds after a change to an item that passes
pub list_all-changed_at : {X : Type 0} (test : X → Bool) (xs : List X) (i : ℕ) (change : X → X) → list_all test xs ≡ true
    → ((x : X) → slice_get xs i ≡ Some x → test (change x) ≡ true) → list_all test (changed_at xs i change) ≡ true
list_all-changed_at test xs i change all here =
    list_all-from_at test (changed_at xs i change) (changed_at_each (λ n x. test x ≡ true) xs i change here (λ k x apart at. list_all-at test xs k x all at))

module _ {X Y : Type 0} (read : X → Y) (change : X → X) where
  -- a change of the item is one of what is read of it
  pub map-changed_at : (xs : List X) (i : ℕ) (seen : Y → Y) → ((x : X) → slice_get xs i ≡ Some x → read (change x) ≡ seen (read x)) → map read (changed_at xs i change) ≡ changed_at (map read xs) i seen
  map-changed_at [] i seen agree = refl
  map-changed_at (x ∷ xs) zero seen agree = ap (λ (y : Y). y ∷ map read xs) (agree x refl)
  map-changed_at (x ∷ xs) (suc i) seen agree =
      ap (map read) (changed_at_suc x xs i change)
      ∙ (ap (λ (ys : List Y). read x ∷ ys) (map-changed_at xs i seen agree) ∙ sym (changed_at_suc (read x) (map read xs) i seen))

  -- a change that leaves what is read of an item leaves what is read of all
  pub map-changed_at_kept : ((x : X) → read (change x) ≡ read x) → (xs : List X) (i : ℕ) → map read (changed_at xs i change) ≡ map read xs
  map-changed_at_kept kept xs i = map-changed_at xs i (λ y. y) (λ x at. kept x) ∙ changed_at_kept (map read xs) i (λ y. y) (λ y at. refl)

  -- what is read of the changed item stands at its place
  pub map-changed_at_set : (y : Y) (xs : List X) (i : ℕ) → ((x : X) → slice_get xs i ≡ Some x → read (change x) ≡ y) → i < length xs → map read (changed_at xs i change) ≡ slice_set (map read xs) i y
  map-changed_at_set y [] i here within = absurd (omega arith)
  map-changed_at_set y (x ∷ xs) zero here within = ap (λ (z : Y). z ∷ map read xs) (here x refl)
  map-changed_at_set y (x ∷ xs) (suc i) here within = ap (map read) (changed_at_suc x xs i change) ∙ ap (λ (ys : List Y). read x ∷ ys) (map-changed_at_set y xs i here (omega arith))

  -- a change of each item that leaves what is read of it leaves what is read of all
  pub map-map_kept : ((x : X) → read (change x) ≡ read x) → (xs : List X) → map read (map change xs) ≡ map read xs
  map-map_kept kept [] = refl
  map-map_kept kept (x ∷ xs) = λ j. kept x j ∷ map-map_kept kept xs j
