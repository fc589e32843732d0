-- Depends of which more are satisfied: they keep their numbers and their ends, and have no more groups left. Groups of which more targets are done.
use Rattle.std.proofs.Common.{◌≡◌, ◌≤◌, ℕ, Bool, true, false, cond, ◌&&◌, ◌||◌, List, [], ◌∷◌, map, refl, ◌⊎◌, inl, inr, arith}
use Rattle.std.specs.List.{list_all, list_any, sum_by}
use Rattle.std.proofs.lemmas.Bool.{or_cases, or_left, or_right}
use Rattle.std.proofs.lemmas.List.Sums.{sum_by-cons}
use Rattle.farm_types.specs.declared.depend.Group.{Group}
use Rattle.farm_types.specs.Depends.{are_done}
use Rattle.farm_types.proofs.Lists.{list_all-at, list_all-from_at}
pub use Rattle.farm_law.proofs.KeptJobsLists.{rising-map}

-- a sum of no more at each item
pub sum_by-map-less : {X : Type 0} (new old : X → ℕ) (change : X → X) → ((x : X) → new (change x) ≤ old x) → (xs : List X) → sum_by new (map change xs) ≤ sum_by old xs
sum_by-map-less new old change less [] = omega arith
sum_by-map-less new old change less (x ∷ xs) =
    omega (arith, sum_by-cons new (change x) (map change xs), sum_by-cons old x xs, less x, sum_by-map-less new old change less xs)

-- nothing is left of what is satisfied
pub left_less : (before more : Bool) (new old : ℕ) → new ≡ old → cond (before || more) 0 new ≤ cond before 0 old
left_less true more new old same = omega arith
left_less false true new old same = omega arith
left_less false false new old same = omega (arith, same)

-- what is satisfied or passes does so where more is satisfied
pub kept_more : (before more there : Bool) → (before || there) ≡ true → ((before || more) || there) ≡ true
kept_more true more there h = refl
kept_more false true there h = refl
kept_more false false there h = h

pub there_more : (waiter before more target : Bool) → (waiter && (before || target)) ≡ true → (waiter && ((before || more) || target)) ≡ true
there_more true before more target h = kept_more before more target h
there_more false before more target h = h

-- ---- targets

any_step : (p q : ℕ → Bool) → ((slot : ℕ) → p slot ≡ true → q slot ≡ true) → (t : ℕ) (ts : List ℕ) → (p t ≡ true) ⊎ (list_any p ts ≡ true) → (list_any p ts ≡ true → list_any q ts ≡ true) → list_any q (t ∷ ts) ≡ true
any_step p q more t ts (inl here) rest = or_left (q t) (list_any q ts) (more t here)
any_step p q more t ts (inr later) rest = or_right (q t) (list_any q ts) (rest later)

any_more : (p q : ℕ → Bool) → ((slot : ℕ) → p slot ≡ true → q slot ≡ true) → (ts : List ℕ) → list_any p ts ≡ true → list_any q ts ≡ true
any_more p q more [] h = h
any_more p q more (t ∷ ts) h = any_step p q more t ts (or_cases (p t) (list_any p ts) h) (any_more p q more ts)

done_by : (p q : ℕ → Bool) → ((slot : ℕ) → p slot ≡ true → q slot ≡ true) → (ts : List ℕ) (b : Bool) → cond b (list_any p ts) (list_all p ts) ≡ true → cond b (list_any q ts) (list_all q ts) ≡ true
done_by p q more ts true h = any_more p q more ts h
done_by p q more ts false h = list_all-from_at q ts (λ n t at. more t (list_all-at p ts n t h at))

-- more are done
pub are_done_more : (p q : ℕ → Bool) (g : Group) → ((slot : ℕ) → p slot ≡ true → q slot ≡ true) → are_done p g ≡ true → are_done q g ≡ true
are_done_more p q g more h = done_by p q more g.targets g.any h
