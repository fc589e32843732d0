-- Replacing one item changes a total by the difference of the two weights.
use Rattle.std.proofs.Common.{◌≡◌, ◌≢◌, ◌⊎◌, ℕ, zero, suc, ◌+◌, ◌*◌, ◌<◌, ◌≤◌, List, [], ◌∷◌, ◌++◌, length, set, sym, refl, ap, arith, inl, inr, ⊎_elim}
use mathlib.Core.Option.{some, some-injective, some-ne-none}
use mathlib.Core.Logic.{dite}
use native.Mathlib.Decide.{ℕ_discrete}
use lib.ListN.{get_elem?}
use Rattle.booking_rule.specs.Totals.{total, sum_to}

module _ {A : Type 0} where
  pub total_set : (f : A → ℕ) (l : List A) (i : ℕ) (v w : A) → get_elem? l i ≡ some v → total f (set l i w) + f v ≡ total f l + f w
  total_set f [] i v w e = absurd (some-ne-none v (sym e))
  total_set f (x ∷ xs) zero v w e = let is : f x ≡ f v = ap f (some-injective x v e) in omega arith
  total_set f (x ∷ xs) (suc i) v w e = let r = total_set f xs i v w e in omega arith

  pub total_snoc : (f : A → ℕ) (l : List A) (x : A) → total f (l ++ x ∷ []) ≡ total f l + f x
  total_snoc f [] x = omega arith
  total_snoc f (y ∷ ys) x = let r = total_snoc f ys x in omega arith

  pub total_append : (f : A → ℕ) (l m : List A) → total f (l ++ m) ≡ total f l + total f m
  total_append f [] m = omega arith
  total_append f (x ∷ xs) m = let r = total_append f xs m in omega arith

  pub total_plus : (f g : A → ℕ) (l : List A) → total (λ x. f x + g x) l ≡ total f l + total g l
  total_plus f g [] = refl
  total_plus f g (x ∷ xs) = let r = total_plus f g xs in omega arith

  pub total_le : (f g : A → ℕ) (m : ℕ) (l : List A) → ((i : ℕ) (x : A) → get_elem? l i ≡ some x → f x ≤ m * g x) → total f l ≤ m * total g l
  total_le f g m [] h = omega arith
  total_le f g m (x ∷ xs) h = let r = total_le f g m xs (λ i y e. h (suc i) y e) in let one = h zero x refl in let d : m * (g x + total g xs) ≡ m * g x + m * total g xs = grind arith in omega arith

-- an item of a list with one more at its end
module _ {A : Type 0} where
  pub at_more : (l : List A) (a b : A) (j : ℕ) → get_elem? (l ++ a ∷ []) j ≡ some b → (get_elem? l j ≡ some b) ⊎ ((j ≡ length l) × (a ≡ b))
  at_more [] a b zero e = inr (refl, some-injective a b e)
  at_more [] a b (suc j) e = absurd (some-ne-none b (sym e))
  at_more (x ∷ xs) a b zero e = inl e
  at_more (x ∷ xs) a b (suc j) e = ⊎_elim (λ (h : get_elem? xs j ≡ some b). inl h) (λ (h : (j ≡ length xs) × (a ≡ b)). inr (ap suc h.0, h.1)) (at_more xs a b j e)

-- the functions agree below n
pub sum_to-same : (n : ℕ) (f g : ℕ → ℕ) → ((j : ℕ) → j < n → g j ≡ f j) → sum_to n g ≡ sum_to n f
unfolding sum_to
sum_to-same zero f g h = refl
sum_to-same (suc n) f g h = let r = sum_to-same n f g (λ j lt. h j (omega arith)) in let one = h n (omega arith) in omega arith

-- the functions agree below n but at k
pub sum_to-change : (n k : ℕ) (f g : ℕ → ℕ) → k < n → ((j : ℕ) → j < n → j ≢ k → g j ≡ f j) → sum_to n g + f k ≡ sum_to n f + g k
unfolding sum_to
sum_to-change zero k f g lt h = absurd (omega arith)
sum_to-change (suc n) k f g lt h = dite (ℕ_discrete k n)
    (λ e. let same = sum_to-same n f g (λ j l. h j (omega arith) (λ x. absurd (omega arith))) in let a : f k ≡ f n = ap f e in let b : g k ≡ g n = ap g e in omega arith)
    (λ ne. let r = sum_to-change n k f g (omega arith) (λ j l d. h j (omega arith) d) in let one = h n (omega arith) (λ x. ne (sym x)) in omega arith)

pub sum_to-zero : (n : ℕ) → sum_to n (λ _. 0) ≡ 0
unfolding sum_to
sum_to-zero zero = refl
sum_to-zero (suc n) = let r = sum_to-zero n in omega arith
