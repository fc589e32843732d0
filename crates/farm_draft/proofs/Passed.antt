-- A pass over a list in which the items before a place are changed: what is read at the place, and items that need no change.
use Rattle.std.proofs.Common.{◌≡◌, ℕ, suc, zero, ◌+◌, ◌<◌, ◌≤◌, ◌++◌, List, [], ◌∷◌, map, take, drop, Some, refl, sym, ap, ◌∙◌, arith}
use Rattle.std.specs.List.{slice_get}
use Rattle.farm_types.specs.Farm.{changed_at}
use Rattle.farm_types.proofs.ChangesInTurn.{pass_step}

-- the items before the place are changed
abbrev pub passed : {X : Type 0} → (X → X) → ℕ → List X → List X
passed change n xs = map change (take n xs) ++ drop n xs

pub slice_get-passed : {X : Type 0} (change : X → X) (n : ℕ) (xs : List X) → slice_get (passed change n xs) n ≡ slice_get xs n
slice_get-passed change zero xs = refl
slice_get-passed change (suc n) [] = refl
slice_get-passed change (suc n) (x ∷ xs) = slice_get-passed change n xs

-- one more
pub passed_next : {X : Type 0} (change : X → X) (n : ℕ) (xs : List X) → changed_at (passed change n xs) n change ≡ passed change (n + 1) xs
passed_next change n xs =
    let next : suc n ≡ n + 1 = omega arith in
    pass_step change xs n ∙ ap (λ (m : ℕ). passed change m xs) next

-- items that the change leaves are passed over
pub passed_over : {X : Type 0} (change : X → X) (from to : ℕ) (xs : List X) → from ≤ to → ((i : ℕ) (x : X) → from ≤ i → i < to → slice_get xs i ≡ Some x → change x ≡ x) → passed change from xs ≡ passed change to xs
passed_over change zero zero xs ahead same = refl
passed_over change zero (suc to) [] ahead same = refl
passed_over {X} change zero (suc to) (x ∷ xs) ahead same =
    ap (λ (y : X). y ∷ xs) (sym (same 0 x (omega arith) (omega arith) refl))
    ∙ ap (λ (ys : List X). change x ∷ ys) (passed_over change zero to xs (omega arith) (λ i y low below at. same (suc i) y (omega arith) (omega arith) at))
passed_over change (suc from) zero xs ahead same = absurd (omega arith)
passed_over change (suc from) (suc to) [] ahead same = refl
passed_over {X} change (suc from) (suc to) (x ∷ xs) ahead same =
    ap (λ (ys : List X). change x ∷ ys) (passed_over change from to xs (omega arith) (λ i y low below at. same (suc i) y (omega arith) (omega arith) at))

-- where the change leaves all items from the place on, each is changed
pub passed_all : {X : Type 0} (change : X → X) (from : ℕ) (xs : List X) → ((i : ℕ) (x : X) → from ≤ i → slice_get xs i ≡ Some x → change x ≡ x) → passed change from xs ≡ map change xs
passed_all change zero [] same = refl
passed_all {X} change zero (x ∷ xs) same = ap (λ (y : X). y ∷ xs) (sym (same 0 x (omega arith) refl)) ∙ ap (λ (ys : List X). change x ∷ ys) (passed_all change zero xs (λ i y low at. same (suc i) y (omega arith) at))
passed_all change (suc from) [] same = refl
passed_all {X} change (suc from) (x ∷ xs) same = ap (λ (ys : List X). change x ∷ ys) (passed_all change from xs (λ i y low at. same (suc i) y (omega arith) at))
