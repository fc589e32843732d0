-- Lists that may grow: each item stays at its place, related to what it was.
use Rattle.std.proofs.Common.{◌≡◌, ◌≢◌, ℕ, suc, zero, List, [], ◌∷◌, ◌++◌, map, Some, ap, subst, sym, ◌∙◌, ◌⊎◌, inl, inr, option_map}
use Rattle.std.specs.List.{slice_get}
use Rattle.std.proofs.lemmas.Option.{none-some, slice_get-map}
use Rattle.farm_types.specs.Farm.{changed_at}
use Rattle.farm_types.proofs.Changed.{places, changed_at_same, changed_at_other}

-- each item of the first list has, at its place in the second, one that it is related to
abbrev pub EachStays : {X : Type 0} → (X → X → Type 0) → List X → List X → Type 0
EachStays {X} R xs ys = (i : ℕ) (x : X) → slice_get xs i ≡ Some x → (y : X) × (slice_get ys i ≡ Some y) × R x y

pub EachStays-same : {X : Type 0} (R : X → X → Type 0) → ((x : X) → R x x) → (xs : List X) → EachStays R xs xs
EachStays-same R self xs i x at = (x, at, self x)

pub EachStays-then : {X : Type 0} (R : X → X → Type 0) → ((x y z : X) → R x y → R y z → R x z) → (xs ys zs : List X) → EachStays R xs ys → EachStays R ys zs → EachStays R xs zs
EachStays-then R joined xs ys zs first second i x at =
    let y = first i x at in
    let z = second i y.0 y.1 in
    (z.0, z.1, joined x y.0 z.0 y.2 z.2)

EachStays-changed_by : {X : Type 0} (R : X → X → Type 0) → ((x : X) → R x x) → (xs : List X) (i : ℕ) (change : X → X) → ((x : X) → slice_get xs i ≡ Some x → R x (change x)) → (k : ℕ) (x : X) → (k ≡ i) ⊎ (k ≢ i) → slice_get xs k ≡ Some x → (y : X) × (slice_get (changed_at xs i change) k ≡ Some y) × R x y
EachStays-changed_by R self xs i change here k x (inl e) at =
    let at_i = subst (λ (n : ℕ). slice_get xs n ≡ Some x) e at in
    (change x, subst (λ (n : ℕ). slice_get (changed_at xs i change) n ≡ Some (change x)) (sym e) (changed_at_same xs i change x at_i), here x at_i)
EachStays-changed_by R self xs i change here k x (inr apart) at = (x, changed_at_other xs i k change apart ∙ at, self x)

pub EachStays-changed_at : {X : Type 0} (R : X → X → Type 0) → ((x : X) → R x x) → (xs : List X) (i : ℕ) (change : X → X) → ((x : X) → slice_get xs i ≡ Some x → R x (change x)) → EachStays R xs (changed_at xs i change)
EachStays-changed_at R self xs i change here k x at = EachStays-changed_by R self xs i change here k x (places k i) at

pub EachStays-map : {X : Type 0} (R : X → X → Type 0) (xs : List X) (change : X → X) → ((x : X) → R x (change x)) → EachStays R xs (map change xs)
EachStays-map R xs change each i x at = (change x, slice_get-map change xs i ∙ ap (option_map change) at, each x)

pub EachStays-append : {X : Type 0} (R : X → X → Type 0) → ((x : X) → R x x) → (xs ys : List X) → EachStays R xs (xs ++ ys)
EachStays-append R self [] ys i x at = absurd (none-some x at)
EachStays-append R self (z ∷ zs) ys zero x at = (x, at, self x)
EachStays-append R self (z ∷ zs) ys (suc i) x at = EachStays-append R self zs ys i x at
