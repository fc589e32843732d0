-- Those who wait in groups that aren't met, and what is unmet without them.
use Rattle.std.proofs.Common.{◌≡◌, ℕ, zero, suc, ◌+◌, ◌-◌, Bool, true, false, not, cond, List, [], ◌∷◌, ◌++◌, map, drop, Some, option_map, refl, sym, ap, subst, ◌∙◌, ◌⊎◌, inl, inr, arith}
use Rattle.std.specs.Prelude.{nat_eq, ◌&&◌}
use Rattle.std.specs.List.{slice_get, count_by, AllByRecursion, IsDistinct}
use Rattle.std.proofs.lemmas.Bool.{eq-eqb, ne_eqb}
use Rattle.std.proofs.lemmas.List.{drop_more}
use Rattle.std.proofs.lemmas.List.Elements.{recursion_from_All}
use Rattle.std.proofs.lemmas.List.Sums.{sum_by-cons}
use Rattle.std.proofs.lemmas.Option.{get_or_from_slice_get, none-some, same_Some, slice_get-map, slice_get_within}
use Rattle.farm_types.specs.declared.depend.Group.{Group}
use Rattle.farm_types.specs.Depends.{waits_in}
use Rattle.farm_types.specs.Sums.{total_at}
use Rattle.farm_types.proofs.Changed.{places}
use Rattle.farm_types.proofs.Passes.{option_map-from}
use Rattle.depend_edges.specs.Groups.{IsGroup}
use Rattle.depend_edges.specs.Listed.{ListedLists, is_there}
use Rattle.depend_edges.specs.declared.listed.Count.{Count}
use Rattle.depend_edges.proofs.Counts.{count_by-cons, one_if}
use Rattle.depend_graph.specs.Graph.{Watch, Watched, holds, met_group, met_where, unmet_in, unmet_of}
use Rattle.depend_graph.specs.Inside.{KeepsDepends, KeepsSums, watches}
use Rattle.depend_graph.specs.Trial.{is_at, waiters_left}
use Rattle.depend_graph.specs.Watches.{watch_by, watched_by, watched_with}
use Rattle.depend_graph.proofs.ProgressLemmas.Freed.{among_head, among_tail, is_among, not_later}
use Rattle.depend_graph.proofs.GoingLemmas.Gone.{met_stays, other_empty}
use Rattle.depend_graph.proofs.TrialLemmas.Tried.{at_both}

-- ---- group by group

one_there : {X : Type 0} (xs : List X) (k : ℕ) (x : X) → slice_get xs k ≡ Some x → drop k xs ≡ x ∷ drop (k + 1) xs
one_there xs k x at = drop_more xs k x (slice_get_within xs k x at) ∙ ap (λ y. y ∷ drop (k + 1) xs) (get_or_from_slice_get xs k x x at)

-- those of one group, and those of the groups after it
pub waiters_next : (gs : List Group) (cs : List Count) (k : ℕ) (g : Group) (c : Count) → slice_get gs k ≡ Some g → slice_get cs k ≡ Some c
    → waiters_left (drop k gs) (drop k cs) ≡ cond c.met [] g.waiters ++ waiters_left (drop (k + 1) gs) (drop (k + 1) cs)
waiters_next gs cs k g c at_g at_c = λ i. waiters_left (one_there gs k g at_g i) (one_there cs k c at_c i)

-- ---- how often a slot stands among them

once_among : (s : ℕ) (ws : List ℕ) → IsDistinct nat_eq ws → count_by (is_at s) ws ≡ one_if (is_among s ws)
unfolding IsDistinct
once_among s [] apart = refl
once_among s (x ∷ xs) apart =
    elim (places x s) as (λ c. count_by (is_at s) (x ∷ xs) ≡ one_if (is_among s (x ∷ xs))) [
      | inl same ↦
          omega
          (arith, count_by-cons (is_at s) x xs, ap one_if (eq-eqb x s same), once_among s xs apart.1, ap one_if (not_later x s xs apart.0 same), ap one_if (among_head x s xs same))
      | inr other ↦ omega (arith, count_by-cons (is_at s) x xs, ap one_if (ne_eqb x s other), once_among s xs apart.1, ap one_if (among_tail x s xs other))
    ]

left_counted : (s : ℕ) (gs : List Group) (cs : List Count) → AllByRecursion IsGroup gs → count_by (holds s) (watched_with gs cs) ≡ count_by (is_at s) (waiters_left gs cs)
left_counted s [] cs each = refl
left_counted s (g ∷ gs) [] each = refl
left_counted s (g ∷ gs) (c ∷ cs) each =
    omega
    (arith, count_by-cons (holds s) (watched_by g c) (watched_with gs cs), one c.met, at_both s (cond c.met [] g.waiters) (waiters_left gs cs), left_counted s gs cs each.1)
  where
    one : (b : Bool) → one_if (not b && waits_in s g) ≡ count_by (is_at s) (cond b [] g.waiters)
    one true = refl
    one false = sym (once_among s g.waiters each.0.waiters_differ)

-- ---- one depend's groups are all met

none_held : (s : ℕ) (ws : List Watched) → count_by (holds s) (map met_group ws) ≡ 0
none_held s [] = refl
none_held s (w ∷ ws) =
    let none : one_if (holds s (met_group w)) ≡ 0 = refl in
    omega (arith, count_by-cons (holds s) (met_group w) (map met_group ws), none, none_held s ws)

met_here : (n s : ℕ) (w : Watch) → w.depend ≡ n → unmet_in s (met_where n w) ≡ 0
met_here n s w same = ap (λ b. unmet_in s (cond b (record { depend = w.depend; groups = map met_group w.groups }) w)) (eq-eqb w.depend n same) ∙ none_held s w.groups

others_stay : (n : ℕ) (ws : List Watch) → ((q : ℕ) (v : Watch) → slice_get ws q ≡ Some v → v.depend ≡ n → v.groups ≡ []) → map (met_where n) ws ≡ ws
others_stay n [] apart = refl
others_stay n (w ∷ ws) apart =
    let rest = others_stay n ws (λ q v at. apart (suc q) v at) in
    λ i. met_stays n w (apart 0 w refl) i ∷ rest i

or_empty : (v : Watch) (q p : ℕ) → (q ≡ p → ⊥) → (q ≡ p) ⊎ (v.groups ≡ []) → v.groups ≡ []
or_empty v q p apart (inl same) = absurd (apart same)
or_empty v q p apart (inr none) = none

without_unmet : (n s : ℕ) (ws : List Watch) (p : ℕ) (w : Watch) → slice_get ws p ≡ Some w → w.depend ≡ n → ((q : ℕ) (v : Watch) → slice_get ws q ≡ Some v → v.depend ≡ n → (q ≡ p) ⊎ (v.groups ≡ []))
    → unmet_of (map (met_where n) ws) s + unmet_in s w ≡ unmet_of ws s
without_unmet n s [] p w at named alone = absurd (none-some w at)
without_unmet n s (v ∷ vs) zero w at named alone =
    let same : v ≡ w = same_Some v w at in
    let rest : map (met_where n) vs ≡ vs = others_stay n vs (λ q u at_u is. or_empty u (suc q) 0 (λ e. absurd (omega (arith, e))) (alone (suc q) u at_u is)) in
    omega (
      arith,
      sum_by-cons (unmet_in s) (met_where n v) (map (met_where n) vs),
      sum_by-cons (unmet_in s) v vs,
      met_here n s v (ap (λ (u : Watch). u.depend) same ∙ named),
      ap (unmet_in s) same,
      ap (λ (us : List Watch). unmet_of us s) rest,
    )
without_unmet n s (v ∷ vs) (suc p) w at named alone =
    let stays : met_where n v ≡ v = met_stays n v (λ is. or_empty v 0 (suc p) (λ e. absurd (omega (arith, e))) (alone 0 v refl is)) in
    omega (
      arith,
      sum_by-cons (unmet_in s) (met_where n v) (map (met_where n) vs),
      sum_by-cons (unmet_in s) v vs,
      ap (unmet_in s) stays,
      without_unmet n s vs p w at named (λ q u at_u is. earlier u q (alone (suc q) u at_u is)),
    )
  where
    earlier : (u : Watch) (q : ℕ) → (suc q ≡ suc p) ⊎ (u.groups ≡ []) → (q ≡ p) ⊎ (u.groups ≡ [])
    earlier u q (inl same) = inl (omega (arith, same))
    earlier u q (inr none) = inr none

pub without_counted : (ds : List ListedLists) (unmet : List ℕ) (left : ℕ) → KeepsDepends ds → KeepsSums unmet left ds → (p : ℕ) (d : ListedLists) → slice_get ds p ≡ Some d → is_there d ≡ true → (n : ℕ) → d.depend ≡ n → (s : ℕ)
    → unmet_of (map (met_where n) (watches ds)) s ≡ total_at unmet s - count_by (is_at s) (waiters_left d.groups d.counts)
without_counted ds unmet left depends sums p d at marked n named s =
    let there : slice_get (watches ds) p ≡ Some (watch_by d) = slice_get-map watch_by ds p ∙ ap (option_map watch_by) at in
    let alone : (q : ℕ) (v : Watch) → slice_get (watches ds) q ≡ Some v → v.depend ≡ n → (q ≡ p) ⊎ (v.groups ≡ []) =
    λ q v at_v is.
    let e = option_map-from watch_by (slice_get ds q) v (sym (slice_get-map watch_by ds q) ∙ at_v) in
    subst (λ (w : Watch). (q ≡ p) ⊎ (w.groups ≡ [])) e.2 (other_empty ds depends q p e.0 d e.1 at marked (ap (λ (w : Watch). w.depend) e.2 ∙ (is ∙ sym named)))
    in
    omega (
      arith,
      without_unmet n s (watches ds) p (watch_by d) there named alone,
      sums.unmet_kept s,
      left_counted s d.groups d.counts (recursion_from_All IsGroup d.groups (depends.listed p d at).each),
    )
