-- Sums over lists: where each item weighs nothing, and where each item is changed.
use Rattle.std.proofs.Common.{◌≡◌, ◌≤◌, ℕ, suc, List, [], ◌∷◌, map, Some, refl, arith}
use Rattle.std.specs.List.{slice_get, sum_by}
use Rattle.std.proofs.lemmas.List.Sums.{sum_by-cons}

-- where each item weighs nothing, the sum is 0
pub sum_by-each_zero : {X : Type 0} (weight : X → ℕ) (xs : List X) → ((i : ℕ) (x : X) → slice_get xs i ≡ Some x → weight x ≡ 0) → sum_by weight xs ≡ 0
sum_by-each_zero weight [] zero_at = refl
sum_by-each_zero weight (x ∷ xs) zero_at = omega (arith, sum_by-cons weight x xs, zero_at 0 x refl, sum_by-each_zero weight xs (λ i y at. zero_at (suc i) y at))

-- where no item gets heavier, the sum doesn't rise
pub sum_by-map_le : {X : Type 0} (weight : X → ℕ) (change : X → X) → ((x : X) → weight (change x) ≤ weight x) → (xs : List X) → sum_by weight (map change xs) ≤ sum_by weight xs
sum_by-map_le weight change lighter [] = omega arith
sum_by-map_le weight change lighter (x ∷ xs) =
    omega (arith, sum_by-cons weight (change x) (map change xs), sum_by-cons weight x xs, lighter x, sum_by-map_le weight change lighter xs)

-- where each changed item weighs nothing, the sum over them is 0
pub sum_by-map_zero : {X : Type 0} (weight : X → ℕ) (change : X → X) → ((x : X) → weight (change x) ≡ 0) → (xs : List X) → sum_by weight (map change xs) ≡ 0
sum_by-map_zero weight change none [] = refl
sum_by-map_zero weight change none (x ∷ xs) = omega (arith, sum_by-cons weight (change x) (map change xs), none x, sum_by-map_zero weight change none xs)
