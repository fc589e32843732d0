-- Tests that stay true: of a number as its bound rises, and of all items of a list, where it is weaker, where an item comes, and where each changes.
use Rattle.std.proofs.Common.{◌≡◌, ◌≤◌, ℕ, Bool, true, leb, ltb, arith, List, [], ◌∷◌, ◌++◌, map, refl, ◌∙◌}
use Rattle.std.specs.List.{list_all}
use Rattle.std.proofs.lemmas.Bool.{le-leb, leb-true, lt-ltb, ltb-true}
use Rattle.std.proofs.lemmas.List.Folds.{list_all-append, list_all-map}
use Rattle.std.specs.Cmp.Derive.{both_true}
use Rattle.farm_types.proofs.Lists.{list_all-at, list_all-from_at}

pub list_all-weaker : {X : Type 0} (p q : X → Bool) → ((x : X) → p x ≡ true → q x ≡ true) → (xs : List X) → list_all p xs ≡ true → list_all q xs ≡ true
list_all-weaker p q weaker xs all = list_all-from_at q xs (λ n x at. weaker x (list_all-at p xs n x all at))

pub list_all-more : {X : Type 0} (p : X → Bool) (xs : List X) (x : X) → list_all p xs ≡ true → p x ≡ true → list_all p (xs ++ x ∷ []) ≡ true
list_all-more p xs x all here = list_all-append p xs (x ∷ []) ∙ both_true all (both_true here refl)

pub list_all-each : {X : Type 0} (p : X → Bool) (change : X → X) → ((x : X) → p x ≡ true → p (change x) ≡ true) → (xs : List X) → list_all p xs ≡ true → list_all p (map change xs) ≡ true
list_all-each p change kept xs all = list_all-map p change xs ∙ list_all-weaker p (λ x. p (change x)) kept xs all

-- ---- bounds that rise

pub below_more : (n less more : ℕ) → less ≤ more → ltb n less ≡ true → ltb n more ≡ true
below_more n less more grows below = lt-ltb n more (omega (arith, ltb-true n less below, grows))

pub at_more : (n less more : ℕ) → less ≤ more → leb n less ≡ true → leb n more ≡ true
at_more n less more grows within = le-leb n more (omega (arith, leb-true n less within, grows))
