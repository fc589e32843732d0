-- Names that differ stand at one place each.
use Rattle.std.proofs.Common.{◌≡◌, ℕ, zero, suc, true, false, List, [], ◌∷◌, map, Some, refl, sym, ap, subst, ◌∙◌}
use Rattle.std.specs.List.{slice_get, AllByRecursion}
use Rattle.std.specs.Prelude.{bytes_eq}
use Rattle.std.proofs.lemmas.Bool.{false≢true}
use Rattle.std.proofs.lemmas.Cmp.{nat_list_eq_equiv}
use Rattle.std.proofs.lemmas.Map.Keys.{IsDistinct-head, IsDistinct-tail}
use Rattle.std.proofs.lemmas.Option.{same_Some}
use Rattle.farm_types.specs.Kept.{AllDiffer}

all_at : {X : Type 0} (P : List ℕ → Type 0) (label : X → List ℕ) (xs : List X) (k : ℕ) (y : X) → AllByRecursion P (map label xs) → slice_get xs k ≡ Some y → P (label y)
all_at P label [] k y all at = cc
all_at P label (x ∷ xs) zero y all at = subst (λ z. P (label z)) (same_Some x y at) all.0
all_at P label (x ∷ xs) (suc k) y all at = all_at P label xs k y all.1 at

-- no name stands again later in the list
repeated : {X : Type 0} (label : X → List ℕ) (x y : X) (xs : List X) (k : ℕ) → AllDiffer label (x ∷ xs) → slice_get xs k ≡ Some y → label x ≡ label y → ⊥
repeated label x y xs k differ at same =
    let apart : bytes_eq (label x) (label y) ≡ false = all_at (λ name. bytes_eq (label x) name ≡ false) label xs k y (IsDistinct-head bytes_eq (label x) (map label xs) differ) at in
    let alike : bytes_eq (label x) (label y) ≡ true = subst (λ name. bytes_eq (label x) name ≡ true) same (nat_list_eq_equiv.refl (label x)) in
    false≢true (sym apart ∙ alike)

pub names_apart : {X : Type 0} (label : X → List ℕ) (xs : List X) (i k : ℕ) (x y : X) → AllDiffer label xs → slice_get xs i ≡ Some x → slice_get xs k ≡ Some y → label x ≡ label y → i ≡ k
names_apart label [] i k x y differ at_i at_k same = cc
names_apart label (z ∷ zs) zero zero x y differ at_i at_k same = refl
names_apart label (z ∷ zs) zero (suc k) x y differ at_i at_k same = absurd (repeated label z y zs k differ at_k (ap label (same_Some z x at_i) ∙ same))
names_apart label (z ∷ zs) (suc i) zero x y differ at_i at_k same = absurd (repeated label z x zs i differ at_i (ap label (same_Some z y at_k) ∙ sym same))
names_apart label (z ∷ zs) (suc i) (suc k) x y differ at_i at_k same =
    ap suc (names_apart label zs i k x y (IsDistinct-tail bytes_eq (label z) (map label zs) differ) at_i at_k same)
