-- A text's first point, from what std says of splitting at it.
use Rattle.std.proofs.Common.{◌≡◌, ◌≢◌, ℕ, ◌<◌, false, List, [], ◌∷◌, ◌++◌, length, get_or, refl, ap, arith, suc}
use Rattle.std.specs.Prelude.{Some, None, nat_eq}
use Rattle.std.proofs.lemmas.Bool.{ne_eqb}
use Rattle.farm_lines.specs.Points.{before_point, after_point}

pub no_point : (bs : List ℕ) → ((i : ℕ) → i < length bs → get_or bs i 0 ≢ 46) → (bs ≡ before_point bs) × (None ≡ after_point bs)
no_point [] none = (refl, refl)
no_point (b ∷ bs) none =
    let other : nat_eq b 46 ≡ false = ne_eqb b 46 (none 0 (omega arith)) in
    let rest = no_point bs (λ i l. none (suc i) (omega arith)) in
    (rw other (ap (λ (xs : List ℕ). b ∷ xs) rest.0), rw other rest.1)

pub first_point : (front rest : List ℕ) → ((i : ℕ) → i < length front → get_or front i 0 ≢ 46)
    → (front ≡ before_point (front ++ 46 ∷ rest)) × (Some rest ≡ after_point (front ++ 46 ∷ rest))
first_point [] rest none = (refl, refl)
first_point (b ∷ bs) rest none =
    let other : nat_eq b 46 ≡ false = ne_eqb b 46 (none 0 (omega arith)) in
    let more = first_point bs rest (λ i l. none (suc i) (omega arith)) in
    (rw other (ap (λ (xs : List ℕ). b ∷ xs) more.0), rw other more.1)
