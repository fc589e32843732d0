-- Counts by place and edge.
use Rattle.std.proofs.Common.{◌≡◌, ◌≢◌, ◌≤◌, ℕ, zero, suc, ◌+◌, Bool, true, false, List, [], ◌∷◌, length, Some, refl, ap, ◌∙◌, arith}
use Rattle.std.specs.List.{slice_get, count_by}
use Rattle.std.proofs.lemmas.Bool.{false≢true}
use Rattle.std.proofs.lemmas.Option.{none-some, same_Some}
use Rattle.depend_edges.specs.declared.links.Edge.{Edge}
use Rattle.depend_edges.proofs.Counts.{count_by-cons, one_if}
use Rattle.depend_graph.specs.Passing.{count_from}

-- where two tests agree at each place, so do the counts
pub count_from-alike : (f g : ℕ → Edge → Bool) (i : ℕ) (es : List Edge) → ((n m : ℕ) (e : Edge) → m ≡ i + n → slice_get es n ≡ Some e → f m e ≡ g m e) → count_from f i es ≡ count_from g i es
count_from-alike f g i [] same = refl
count_from-alike f g i (e ∷ es) same =
    let rest = count_from-alike f g (i + 1) es (λ n m x is at. same (suc n) m x (is ∙ omega arith) at) in
    ap (λ b. one_if b + count_from f (i + 1) es) (same 0 i e (omega arith) refl) ∙ ap (λ n. one_if (g i e) + n) rest

-- where they agree but at one place, which passes the first alone, that counts one more
pub count_from-one : (f g : ℕ → Edge → Bool) (i j : ℕ) (es : List Edge) (x : Edge) → slice_get es j ≡ Some x → ((m : ℕ) → m ≡ i + j → f m x ≡ true) → ((m : ℕ) → m ≡ i + j → g m x ≡ false)
    → ((n m : ℕ) (e : Edge) → m ≡ i + n → n ≢ j → slice_get es n ≡ Some e → f m e ≡ g m e) → count_from f i es ≡ count_from g i es + 1
count_from-one f g i j [] x at passes fails same = absurd (none-some x at)
count_from-one f g i zero (e ∷ es) x at passes fails same =
    let one : e ≡ x = same_Some e x at in
    let first : f i e ≡ true = ap (f i) one ∙ passes i (omega arith) in
    let second : g i e ≡ false = ap (g i) one ∙ fails i (omega arith) in
    let rest = count_from-alike f g (i + 1) es (λ n m y is at_y. same (suc n) m y (is ∙ omega arith) (λ e. absurd (omega arith)) at_y) in
    omega (arith, ap one_if first, ap one_if second)
count_from-one f g i (suc j) (e ∷ es) x at passes fails same =
    let rest = count_from-one f g (i + 1) j es x at (λ m is. passes m (is ∙ omega arith)) (λ m is. fails m (is ∙ omega arith)) (λ n m y is apart at_y. same (suc n) m y (is ∙ omega arith) (λ e. apart (omega arith)) at_y) in
    let first = ap one_if (same 0 i e (omega arith) (λ e. absurd (omega arith)) refl) in
    omega arith

-- a test of the edge alone
pub count_from-by : (test : Edge → Bool) (i : ℕ) (es : List Edge) → count_from (λ n e. test e) i es ≡ count_by test es
count_from-by test i [] = refl
count_from-by test i (e ∷ es) = omega (arith, count_by-cons test e es, count_from-by test (i + 1) es)

one_less : (a b : Bool) → (a ≡ true → b ≡ true) → one_if a ≤ one_if b
one_less true true more = omega arith
one_less true false more = absurd (false≢true (more refl))
one_less false true more = omega arith
one_less false false more = omega arith

-- where what passes the first passes the second, that counts as many at least
pub count_from-less : (f g : ℕ → Edge → Bool) (i : ℕ) (es : List Edge) → ((n : ℕ) (e : Edge) → f n e ≡ true → g n e ≡ true) → count_from f i es ≤ count_from g i es
count_from-less f g i [] more = omega arith
count_from-less f g i (e ∷ es) more = omega (arith, one_less (f i e) (g i e) (more i e), count_from-less f g (i + 1) es more)

pub count_from-within : (f : ℕ → Edge → Bool) (i : ℕ) (es : List Edge) → count_from f i es ≤ length es
count_from-within f i [] = omega arith
count_from-within f i (e ∷ es) = omega (arith, at_most (f i e), count_from-within f (i + 1) es) where
  at_most : (b : Bool) → one_if b ≤ 1
  at_most true = omega arith
  at_most false = omega arith
