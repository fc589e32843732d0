-- Changes of a list one after the other: two at one place, and a pass that changes each item in turn.
use Rattle.std.proofs.Common.{◌≡◌, ℕ, suc, zero, ◌++◌, List, [], ◌∷◌, map, take, drop, length, refl, sym, ap, ◌∙◌}
use Rattle.farm_types.specs.Farm.{changed_at}
use Rattle.farm_types.proofs.ChangedLists.{changed_at_suc}

-- two changes at one place are one
pub changed_at_twice : {X : Type 0} (xs : List X) (i : ℕ) (f g : X → X) → changed_at (changed_at xs i f) i g ≡ changed_at xs i (λ x. g (f x))
changed_at_twice [] i f g = refl
changed_at_twice (x ∷ xs) zero f g = refl
changed_at_twice {X} (x ∷ xs) (suc i) f g =
    ap (λ (ys : List X). changed_at ys (suc i) g) (changed_at_suc x xs i f)
    ∙ (changed_at_suc x (changed_at xs i f) i g ∙ (ap (λ (ys : List X). x ∷ ys) (changed_at_twice xs i f g) ∙ sym (changed_at_suc x xs i (λ y. g (f y)))))

-- the items before a place are changed; with the one at the place those before the next are
pub pass_step : {X : Type 0} (change : X → X) (xs : List X) (i : ℕ) → changed_at (map change (take i xs) ++ drop i xs) i change ≡ map change (take (suc i) xs) ++ drop (suc i) xs
pass_step change [] zero = refl
pass_step change [] (suc i) = refl
pass_step change (x ∷ xs) zero = refl
pass_step {X} change (x ∷ xs) (suc i) = changed_at_suc (change x) (map change (take i xs) ++ drop i xs) i change ∙ ap (λ (ys : List X). change x ∷ ys) (pass_step change xs i)

-- once all items are passed, each is changed
pub pass_end : {X : Type 0} (change : X → X) (xs : List X) → map change (take (length xs) xs) ++ drop (length xs) xs ≡ map change xs
pass_end change [] = refl
pass_end change (x ∷ xs) = ap (λ ys. change x ∷ ys) (pass_end change xs)
