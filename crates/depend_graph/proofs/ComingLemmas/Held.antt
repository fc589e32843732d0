-- Those who wait in groups that are added: each waits in one unmet group more for each of them.
use Rattle.std.proofs.Common.{◌≡◌, ◌≢◌, ◌≤◌, ◌<◌, ℕ, suc, ◌+◌, Bool, true, false, not, cond, List, [], ◌∷◌, length, Some, refl, sym, ap, subst, ◌∙◌, inl, inr, arith}
use Rattle.std.specs.Prelude.{nat_eq, ◌&&◌}
use Rattle.std.specs.List.{slice_get, count_by, list_all, IsDistinct}
use Rattle.std.proofs.lemmas.Bool.{ltb-true, false≢true}
use Rattle.farm_types.specs.declared.depend.Group.{Group}
use Rattle.farm_types.specs.declared.limits.TheConstants.{SLOT_LIMIT}
use Rattle.farm_types.specs.Depends.{waits_in}
use Rattle.farm_types.specs.Sums.{total_at, total_in}
use Rattle.farm_types.proofs.Changed.{changed_at_same, length-changed_at, places}
use Rattle.farm_types.proofs.Lists.{and_both, slice_get_below}
use Rattle.depend_edges.specs.Groups.{IsGroup, is_below}
use Rattle.depend_edges.specs.declared.listed.Count.{Count}
use Rattle.depend_edges.proofs.Counts.{count_by-cons, one_if, total_at-changed_other}
use Rattle.depend_graph.specs.Added.{all_held, held, held_in, one_more}
use Rattle.depend_graph.specs.Graph.{holds}
use Rattle.depend_graph.specs.Watches.{watched_by, watched_with}
use Rattle.depend_graph.proofs.ProgressLemmas.Freed.{among_head, among_later, among_tail, is_among, not_later}

one_held : (u : List ℕ) (x : ℕ) → x < length u → total_at u x < 4294967295 → total_at (held u x) x ≡ total_at u x + 1
one_held u x within low =
    let n = slice_get_below u x within in
    let was : total_at u x ≡ n.0 = ap total_in n.1 in
    let now : total_at (held u x) x ≡ one_more n.0 = ap total_in (changed_at_same u x one_more n.0 n.1) in
    omega arith

pub held_total : (u : List ℕ) (ws : List ℕ) (s : ℕ) → IsDistinct nat_eq ws → list_all is_below ws ≡ true → length u ≡ SLOT_LIMIT → ((t : ℕ) → total_at u t < 4294967295) → total_at (all_held u ws) s ≡ total_at u s + one_if (is_among s ws)
unfolding IsDistinct
held_total u ws s apart within long low = by_rest u ws s apart within long (λ t among. low t) where
  by_rest : (u : List ℕ) (ws : List ℕ) (s : ℕ) → IsDistinct nat_eq ws → list_all is_below ws ≡ true → length u ≡ SLOT_LIMIT → ((t : ℕ) → is_among t ws ≡ true → total_at u t < 4294967295) → total_at (all_held u ws) s ≡ total_at u s + one_if (is_among s ws)
  by_rest u [] s apart within long low = omega arith
  by_rest u (x ∷ xs) s apart within long low =
      let both = and_both (is_below x) (list_all is_below xs) within in
      let here : x < length u = omega (arith, ltb-true x SLOT_LIMIT both.0) in
      let raised = one_held u x here (low x (among_head x x xs refl)) in
      let more = by_rest (held u x) xs s apart.1 both.1 (length-changed_at u x one_more ∙ long)
      (λ t among.
      let other : t ≢ x = λ same. false≢true (sym (not_later x t xs apart.0 (sym same)) ∙ among) in
      subst (λ (n : ℕ). n < 4294967295) (sym (total_at-changed_other u x t one_more other)) (low t (among_later x t xs among))) in
      elim (places x s) as (λ c. total_at (all_held u (x ∷ xs)) s ≡ total_at u s + one_if (is_among s (x ∷ xs))) [
        | inl same ↦
            let now : total_at (held u x) s ≡ total_at u s + 1 = subst (λ (t : ℕ). total_at (held u x) t ≡ total_at u t + 1) same raised in
            omega (arith, ap one_if (not_later x s xs apart.0 same), ap one_if (among_head x s xs same))
        | inr other ↦
            let now : total_at (held u x) s ≡ total_at u s = total_at-changed_other u x s one_more (λ e. other (sym e)) in
            omega (arith, ap one_if (among_tail x s xs other))
      ]

pub held_long : (u : List ℕ) (ws : List ℕ) → length (all_held u ws) ≡ length u
held_long u [] = refl
held_long u (x ∷ xs) = held_long (held u x) xs ∙ length-changed_at u x one_more

-- ---- all groups of a depend

group_held : (u : List ℕ) (g : Group) (b : Bool) (s : ℕ) → IsGroup g → length u ≡ SLOT_LIMIT → ((t : ℕ) → total_at u t < 4294967295) → total_at (cond b u (all_held u g.waiters)) s ≡ total_at u s + one_if (not b && waits_in s g)
group_held u g true s grouped long low = omega arith
group_held u g false s grouped long low = held_total u g.waiters s grouped.waiters_differ grouped.waiters_within long low

group_long : (u : List ℕ) (g : Group) (b : Bool) → length (cond b u (all_held u g.waiters)) ≡ length u
group_long u g true = refl
group_long u g false = held_long u g.waiters

pub held_in_long : (u : List ℕ) (gs : List Group) (cs : List Count) → length (held_in u gs cs) ≡ length u
held_in_long u [] cs = refl
held_in_long u (g ∷ gs) [] = refl
held_in_long u (g ∷ gs) (c ∷ cs) = held_in_long (cond c.met u (all_held u g.waiters)) gs cs ∙ group_long u g c.met

at_most_one : (b : Bool) → one_if b ≤ 1
at_most_one true = omega arith
at_most_one false = omega arith

pub held_in_total : (u : List ℕ) (gs : List Group) (cs : List Count) (s : ℕ) → ((k : ℕ) (g : Group) → slice_get gs k ≡ Some g → IsGroup g) → length u ≡ SLOT_LIMIT → ((t : ℕ) → total_at u t + length gs ≤ 4294967295)
    → total_at (held_in u gs cs) s ≡ total_at u s + count_by (holds s) (watched_with gs cs)
held_in_total u [] cs s grouped long low = omega arith
held_in_total u (g ∷ gs) [] s grouped long low = omega arith
held_in_total u (g ∷ gs) (c ∷ cs) s grouped long low =
    let step : (t : ℕ) → total_at (cond c.met u (all_held u g.waiters)) t ≡ total_at u t + one_if (not c.met && waits_in t g) = λ t. group_held u g c.met t (grouped 0 g refl) long (λ r. omega (arith, low r)) in
    let more = held_in_total (cond c.met u (all_held u g.waiters)) gs cs s (λ k y at. grouped (suc k) y at) (group_long u g c.met ∙ long) (λ t. omega (arith, step t, low t, at_most_one (not c.met && waits_in t g))) in
    omega (arith, step s, count_by-cons (holds s) (watched_by g c) (watched_with gs cs))
