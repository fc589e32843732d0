-- A list of which some items are changed, by a change that is done once: one more, those at given places, and all.
use Rattle.std.proofs.Common.{◌≡◌, ◌≢◌, ℕ, suc, zero, List, [], ◌∷◌, map, Some, refl, sym, ◌∙◌, ◌⊎◌, inl, inr}
use Rattle.std.specs.List.{slice_get}
use Rattle.std.proofs.lemmas.Option.{none-some, same_Some}
use Rattle.farm_types.specs.Farm.{changed_at}
use Rattle.farm_types.proofs.Changed.{changed_at_each}
use Rattle.farm_types.proofs.ChangedLists.{map-changed_at_kept}
use Rattle.farm_draft.specs.InTurn.{changed_each}

-- the change leaves the item at the place, if there is one
abbrev pub StaysAt : {X : Type 0} → (X → X) → List X → ℕ → Type 0
StaysAt {X} change xs i = (x : X) → slice_get xs i ≡ Some x → change x ≡ x

-- both lists come to the same once all is changed, and what the change leaves in the first it leaves in the second
pub record ChangesSome {X : Type 0} (change : X → X) (xs ys : List X) : Type 0 where
  pub same : map change ys ≡ map change xs
  pub stays : (i : ℕ) → StaysAt change xs i → StaysAt change ys i

pub some_same : {X : Type 0} (change : X → X) (xs : List X) → ChangesSome change xs xs
some_same change xs = record { same = refl; stays = λ i is. is }

pub some_then : {X : Type 0} (change : X → X) (xs ys zs : List X) → ChangesSome change xs ys → ChangesSome change ys zs → ChangesSome change xs zs
some_then change xs ys zs first second = record { same = second.same ∙ first.same; stays = λ i is. second.stays i (first.stays i is) }

-- where the change leaves each item, all are changed
pub all_stay : {X : Type 0} (change : X → X) (xs : List X) → ((i : ℕ) → StaysAt change xs i) → map change xs ≡ xs
all_stay change [] each = refl
all_stay change (x ∷ xs) each = λ j. each 0 x refl j ∷ all_stay change xs (λ i y at. each (suc i) y at) j

module _ {X : Type 0} (change : X → X) (once : (x : X) → change (change x) ≡ change x) where
  else_by : (xs : List X) (i n : ℕ) (x : X) → n ≢ i → slice_get xs n ≡ Some x → (n ≡ i) ⊎ StaysAt change xs n → change x ≡ x
  else_by xs i n x apart here (inl e) = absurd (apart e)
  else_by xs i n x apart here (inr is) = is x here

  -- the change leaves the changed item, and each that it left
  stays_at : (xs : List X) (i k : ℕ) → (k ≡ i) ⊎ StaysAt change xs k → StaysAt change (changed_at xs i change) k
  stays_at xs i k which y at =
      changed_at_each (λ n z. (n ≡ i) ⊎ StaysAt change xs n → change z ≡ z) xs i change
      (λ x here either. once x)
      (λ n x apart here either. else_by xs i n x apart here either)
      k y at which

  some_at : (xs : List X) (i : ℕ) → ChangesSome change xs (changed_at xs i change)
  some_at xs i = record { same = map-changed_at_kept change change once xs i; stays = λ k is. stays_at xs i k (inr is) }

  -- those at the places
  pub some_each : (xs : List X) (places : List ℕ) → ChangesSome change xs (changed_each change xs places)
  some_each xs [] = some_same change xs
  some_each xs (i ∷ is) = some_then change xs (changed_at xs i change) (changed_each change (changed_at xs i change) is) (some_at xs i) (some_each (changed_at xs i change) is)

  pub stays_each : (xs : List X) (places : List ℕ) (k i : ℕ) → slice_get places k ≡ Some i → StaysAt change (changed_each change xs places) i
  stays_each xs [] k i at = absurd (none-some i at)
  stays_each xs (n ∷ ns) zero i at = (some_each (changed_at xs n change) ns).stays i (stays_at xs n i (inl (sym (same_Some n i at))))
  stays_each xs (n ∷ ns) (suc k) i at = stays_each (changed_at xs n change) ns k i at
