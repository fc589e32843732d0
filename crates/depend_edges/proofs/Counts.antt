-- Counts by slot: a total that is changed at one place, and tests as numbers.
use Rattle.std.proofs.Common.{◌≡◌, ◌≢◌, ℕ, ◌+◌, Bool, cond, List, [], ◌∷◌, ◌++◌, map, Option, Some, None, refl, sym, ap, ◌∙◌, arith}
use Rattle.std.specs.List.{slice_get, sum_by, count_by}
use Rattle.std.proofs.lemmas.List.Sums.{sum_by-cons, sum_by-append}
use Rattle.farm_types.specs.Farm.{changed_at, changed_by}
use Rattle.farm_types.specs.Sums.{total_at, total_in}
use Rattle.farm_types.proofs.Changed.{changed_at_other, changed_at_same, changed_at_sum}

abbrev pub one_if : Bool → ℕ
one_if b = cond b 1 0

changed_total : (ns : List ℕ) (i : ℕ) (change : ℕ → ℕ) (o : Option ℕ) → change 0 ≡ 0 → slice_get ns i ≡ o → total_at (changed_at ns i change) i ≡ change (total_at ns i)
changed_total ns i change None zero_stays at = ap (λ (ms : List ℕ). total_at ms i) (ap (changed_by ns i change) at) ∙ (ap total_in at ∙ (sym zero_stays ∙ ap (λ (o : Option ℕ). change (total_in o)) (sym at)))
changed_total ns i change (Some n) zero_stays at = ap total_in (changed_at_same ns i change n at) ∙ ap (λ (o : Option ℕ). change (total_in o)) (sym at)

pub total_at-changed_same : (ns : List ℕ) (i : ℕ) (change : ℕ → ℕ) → change 0 ≡ 0 → total_at (changed_at ns i change) i ≡ change (total_at ns i)
total_at-changed_same ns i change zero_stays = changed_total ns i change (slice_get ns i) zero_stays refl

pub total_at-changed_other : (ns : List ℕ) (i k : ℕ) (change : ℕ → ℕ) → k ≢ i → total_at (changed_at ns i change) k ≡ total_at ns k
total_at-changed_other ns i k change apart = ap total_in (changed_at_other ns i k change apart)

-- ---- counts

pub count_by-cons : {X : Type 0} (test : X → Bool) (x : X) (xs : List X) → count_by test (x ∷ xs) ≡ one_if (test x) + count_by test xs
count_by-cons test x xs = sum_by-cons (λ y. cond (test y) 1 0) x xs

pub count_by-push : {X : Type 0} (test : X → Bool) (xs : List X) (x : X) → count_by test (xs ++ x ∷ []) ≡ count_by test xs + one_if (test x)
count_by-push test xs x =
    let e : count_by test (xs ++ x ∷ []) ≡ count_by test xs + count_by test (x ∷ []) = sum_by-append (λ y. cond (test y) 1 0) xs (x ∷ []) in
    omega (arith, count_by-cons test x [])

changed_count : {X : Type 0} (test : X → Bool) (xs : List X) (i : ℕ) (change : X → X) (x : X) → slice_get xs i ≡ Some x → count_by test (changed_at xs i change) + one_if (test x) ≡ count_by test xs + one_if (test (change x))
changed_count test xs i change x at = changed_at_sum (λ y. cond (test y) 1 0) xs i change x at

pub count_by-changed : {X : Type 0} (test : X → Bool) (xs : List X) (i : ℕ) (change : X → X) (x : X) → slice_get xs i ≡ Some x → count_by test (changed_at xs i change) + one_if (test x) ≡ count_by test xs + one_if (test (change x))
count_by-changed test xs i change x at = changed_count test xs i change x at

-- where two tests agree on all items, so do the counts
pub count_by-alike : {X : Type 0} (f g : X → Bool) → ((x : X) → f x ≡ g x) → (xs : List X) → count_by f xs ≡ count_by g xs
count_by-alike f g same [] = refl
count_by-alike f g same (x ∷ xs) = omega (arith, count_by-cons f x xs, count_by-cons g x xs, ap one_if (same x), count_by-alike f g same xs)

pub sum_by-alike : {X : Type 0} (f g : X → ℕ) → ((x : X) → f x ≡ g x) → (xs : List X) → sum_by f xs ≡ sum_by g xs
sum_by-alike f g same [] = refl
sum_by-alike f g same (x ∷ xs) = omega (arith, sum_by-cons f x xs, sum_by-cons g x xs, same x, sum_by-alike f g same xs)

pub sum_by-mapped : {X Y : Type 0} (f : Y → ℕ) (read : X → Y) (xs : List X) → sum_by f (map read xs) ≡ sum_by (λ x. f (read x)) xs
sum_by-mapped f read [] = refl
sum_by-mapped f read (x ∷ xs) = omega (arith, sum_by-cons f (read x) (map read xs), sum_by-cons (λ y. f (read y)) x xs, sum_by-mapped f read xs)
