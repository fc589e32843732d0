-- Those who wait in a depend's groups wait in them no more.
use Rattle.std.proofs.Common.{◌≡◌, ◌≤◌, ℕ, suc, ◌+◌, ◌-◌, Bool, true, false, not, cond, List, [], ◌∷◌, length, Some, refl, ap, subst, ◌∙◌, arith}
use Rattle.std.specs.Prelude.{◌&&◌}
use Rattle.std.specs.List.{slice_get, count_by}
use Rattle.farm_types.specs.declared.depend.Group.{Group}
use Rattle.farm_types.specs.Depends.{waits_in}
use Rattle.farm_types.specs.Sums.{total_at}
use Rattle.farm_types.proofs.Changed.{length-changed_at}
use Rattle.depend_edges.specs.Groups.{IsGroup}
use Rattle.depend_edges.specs.declared.listed.Count.{Count}
use Rattle.depend_edges.proofs.Counts.{count_by-cons, one_if}
use Rattle.depend_graph.specs.Added.{all_released, released, released_in}
use Rattle.depend_graph.specs.Flow.{Waiting, all_freed, freed, waiting_of}
use Rattle.depend_graph.specs.Graph.{holds}
use Rattle.depend_graph.specs.Watches.{watched_by, watched_with}
use Rattle.depend_graph.proofs.ProgressLemmas.Freed.{freed_unmet, is_among}

released_is : (w : Waiting) (ws : List ℕ) → (all_freed w ws).unmet ≡ all_released w.unmet ws
released_is w [] = refl
released_is w (x ∷ xs) = released_is (freed w x) xs

group_released : (u : List ℕ) (g : Group) (b : Bool) (s : ℕ) → IsGroup g → ((t : ℕ) → one_if (not b && waits_in t g) ≤ total_at u t) → total_at (cond b u (all_released u g.waiters)) s + one_if (not b && waits_in s g) ≡ total_at u s
group_released u g true s grouped low = omega arith
group_released u g false s grouped low =
    subst (λ (ns : List ℕ). total_at ns s + one_if (is_among s g.waiters) ≡ total_at u s) (released_is (waiting_of u []) g.waiters)
    (freed_unmet (waiting_of u []) g.waiters s grouped.waiters_differ (λ t among. omega (arith, low t, ap one_if among)))

released_long : (u : List ℕ) (ws : List ℕ) → length (all_released u ws) ≡ length u
released_long u [] = refl
released_long u (x ∷ xs) = released_long (released u x) xs ∙ length-changed_at u x (λ n. n - 1)

group_long : (u : List ℕ) (g : Group) (b : Bool) → length (cond b u (all_released u g.waiters)) ≡ length u
group_long u g true = refl
group_long u g false = released_long u g.waiters

pub released_in_long : (u : List ℕ) (gs : List Group) (cs : List Count) → length (released_in u gs cs) ≡ length u
released_in_long u [] cs = refl
released_in_long u (g ∷ gs) [] = refl
released_in_long u (g ∷ gs) (c ∷ cs) = released_in_long (cond c.met u (all_released u g.waiters)) gs cs ∙ group_long u g c.met

pub released_in_total : (u : List ℕ) (gs : List Group) (cs : List Count) (s : ℕ) → ((k : ℕ) (g : Group) → slice_get gs k ≡ Some g → IsGroup g) → ((t : ℕ) → count_by (holds t) (watched_with gs cs) ≤ total_at u t)
    → total_at (released_in u gs cs) s + count_by (holds s) (watched_with gs cs) ≡ total_at u s
released_in_total u [] cs s grouped low = omega arith
released_in_total u (g ∷ gs) [] s grouped low = omega arith
released_in_total u (g ∷ gs) (c ∷ cs) s grouped low =
    let counted = λ (t : ℕ). count_by-cons (holds t) (watched_by g c) (watched_with gs cs) in
    let step : (t : ℕ) → total_at (cond c.met u (all_released u g.waiters)) t + one_if (not c.met && waits_in t g) ≡ total_at u t = λ t. group_released u g c.met t (grouped 0 g refl) (λ r. omega (arith, low r, counted r)) in
    let more = released_in_total (cond c.met u (all_released u g.waiters)) gs cs s (λ k y at. grouped (suc k) y at) (λ t. omega (arith, step t, low t, counted t)) in
    omega (arith, step s, more, counted s)
