-- What a group that is met changes of the depend that it stands for.
use Rattle.std.proofs.Common.{◌≡◌, ◌≢◌, ℕ, zero, suc, ◌+◌, ◌-◌, Bool, true, false, not, cond, eqb, List, [], ◌∷◌, length, Some, refl, sym, ap, subst, ◌∙◌, ◌⊎◌, inl, inr, arith}
use Rattle.std.specs.Prelude.{◌&&◌}
use Rattle.std.specs.List.{slice_get, count_by, list_all, sum_by}
use Rattle.std.proofs.lemmas.Bool.{eq-eqb, ne_eqb}
use Rattle.std.proofs.lemmas.Option.{none-some, same_Some}
use Rattle.farm_types.specs.declared.depend.Group.{Group}
use Rattle.farm_types.specs.Depends.{waits_in}
use Rattle.farm_types.specs.Farm.{changed_at}
use Rattle.farm_types.proofs.Changed.{changed_at_sum, length-changed_at, places}
use Rattle.farm_types.proofs.ChangedLists.{changed_at_suc}
use Rattle.depend_edges.specs.Counts.{met_at, met_count}
use Rattle.depend_edges.specs.Listed.{IsListed, ListedLists, is_unmet}
use Rattle.depend_edges.specs.declared.listed.Count.{Count}
use Rattle.depend_edges.proofs.Counts.{count_by-changed, count_by-cons, one_if, sum_by-mapped}
use Rattle.depend_graph.specs.Graph.{Watch, Watched, holds, is_met, is_satisfied, unmet_in}
use Rattle.depend_graph.specs.Inside.{watches}
use Rattle.depend_graph.specs.Watches.{watch_by, watched_by, watched_with}

-- ---- sums over the depends that are stood for

pub watches_change : (weight : Watch → ℕ) (ds : List ListedLists) (q : ℕ) (change : ListedLists → ListedLists) (d : ListedLists) → slice_get ds q ≡ Some d
    → sum_by weight (watches (changed_at ds q change)) + weight (watch_by d) ≡ sum_by weight (watches ds) + weight (watch_by (change d))
watches_change weight ds q change d at =
    let e = changed_at_sum (λ x. weight (watch_by x)) ds q change d at in
    omega (arith, sum_by-mapped weight watch_by ds, sum_by-mapped weight watch_by (changed_at ds q change))

-- ---- one count changes

pub watched_change : (test : Watched → Bool) (gs : List Group) (cs : List Count) (k : ℕ) (change : Count → Count) (g : Group) (c : Count) → slice_get gs k ≡ Some g → slice_get cs k ≡ Some c
    → count_by test (watched_with gs (changed_at cs k change)) + one_if (test (watched_by g c)) ≡ count_by test (watched_with gs cs) + one_if (test (watched_by g (change c)))
watched_change test [] cs k change g c at at_count = absurd (none-some g at)
watched_change test (y ∷ ys) [] k change g c at at_count = absurd (none-some c at_count)
watched_change test (y ∷ ys) (z ∷ zs) zero change g c at at_count =
    subst (λ (n : Count). count_by test (watched_by y (change z) ∷ watched_with ys zs) + one_if (test (watched_by g n)) ≡ count_by test (watched_by y z ∷ watched_with ys zs) + one_if (test (watched_by g (change n))))
    (same_Some z c at_count)
    (subst (λ (n : Group). count_by test (watched_by y (change z) ∷ watched_with ys zs) + one_if (test (watched_by n z)) ≡ count_by test (watched_by y z ∷ watched_with ys zs) + one_if (test (watched_by n (change z))))
    (same_Some y g at) (omega (arith, count_by-cons test (watched_by y (change z)) (watched_with ys zs), count_by-cons test (watched_by y z) (watched_with ys zs))))
watched_change test (y ∷ ys) (z ∷ zs) (suc k) change g c at at_count =
    let more = watched_change test ys zs k change g c at at_count in
    let step : count_by test (watched_with (y ∷ ys) (changed_at (z ∷ zs) (suc k) change)) ≡ count_by test (watched_by y z ∷ watched_with ys (changed_at zs k change)) = ap (λ (ns : List Count). count_by test (watched_with (y ∷ ys) ns)) (changed_at_suc z zs k change) in
    omega (arith, count_by-cons test (watched_by y z) (watched_with ys (changed_at zs k change)), count_by-cons test (watched_by y z) (watched_with ys zs))

-- a count whose mark stays changes nothing
pub watched_same : (gs : List Group) (cs : List Count) (k : ℕ) (change : Count → Count) → ((c : Count) → (change c).met ≡ c.met) → watched_with gs (changed_at cs k change) ≡ watched_with gs cs
watched_same [] cs k change marks = refl
watched_same (y ∷ ys) [] zero change marks = refl
watched_same (y ∷ ys) [] (suc k) change marks = refl
watched_same (y ∷ ys) (z ∷ zs) zero change marks = λ i. record { group = y; met = marks z i } ∷ watched_with ys zs
watched_same (y ∷ ys) (z ∷ zs) (suc k) change marks =
    ap (watched_with (y ∷ ys)) (changed_at_suc z zs k change) ∙ ap (λ (ws : List Watched). watched_by y z ∷ ws) (watched_same ys zs k change marks)

-- ---- a depend is satisfied where no group of it is unmet

pub satisfied_is : (gs : List Group) (cs : List Count) → length cs ≡ length gs → list_all is_met (watched_with gs cs) ≡ eqb (count_by is_unmet cs) 0
satisfied_is [] [] same = refl
satisfied_is [] (z ∷ zs) same = absurd (omega arith)
satisfied_is (y ∷ ys) [] same = absurd (omega arith)
satisfied_is (y ∷ ys) (z ∷ zs) same = by_mark z.met refl (satisfied_is ys zs (omega arith)) where
  by_mark : (b : Bool) → z.met ≡ b → list_all is_met (watched_with ys zs) ≡ eqb (count_by is_unmet zs) 0 → (z.met && list_all is_met (watched_with ys zs)) ≡ eqb (count_by is_unmet (z ∷ zs)) 0
  by_mark true marked rest =
      let count : count_by is_unmet (z ∷ zs) ≡ count_by is_unmet zs = omega (arith, count_by-cons is_unmet z zs, ap (λ m. one_if (not m)) marked) in
      ap (λ m. m && list_all is_met (watched_with ys zs)) marked ∙ (rest ∙ ap (λ n. eqb n 0) (sym count))
  by_mark false marked rest =
      ap (λ m. m && list_all is_met (watched_with ys zs)) marked
      ∙ sym (ne_eqb (count_by is_unmet (z ∷ zs)) 0 (λ none. absurd (omega (arith, count_by-cons is_unmet z zs, ap (λ m. one_if (not m)) marked))))

pub satisfied_by : (d : ListedLists) → length d.counts ≡ length d.groups → d.unmet ≡ count_by is_unmet d.counts → is_satisfied (watch_by d) ≡ eqb d.unmet 0
satisfied_by d counted kept = satisfied_is d.groups d.counts counted ∙ ap (λ n. eqb n 0) (sym kept)

-- how many groups of a depend count as left
abbrev pub weight_of : Watch → ℕ
weight_of w = cond (is_satisfied w) 0 (length w.groups)

pub length-watched : (gs : List Group) (cs : List Count) → length cs ≡ length gs → length (watched_with gs cs) ≡ length gs
length-watched [] cs same = refl
length-watched (g ∷ gs) [] same = absurd (omega arith)
length-watched (g ∷ gs) (c ∷ cs) same = omega (arith, length-watched gs cs (omega (arith, same)))

-- ---- a group is met

module _ (d : ListedLists) (k : ℕ) (g : Group) (c : Count) (at : slice_get d.groups k ≡ Some g) (at_count : slice_get d.counts k ≡ Some c) (unmet : c.met ≡ false) where
  -- each who waits in it waits in one fewer
  pub met_unmet_in : (s : ℕ) → unmet_in s (watch_by (met_at k d)) + one_if (waits_in s g) ≡ unmet_in s (watch_by d)
  met_unmet_in s =
      let e = watched_change (holds s) d.groups d.counts k met_count g c at at_count in
      let was : one_if (holds s (watched_by g c)) ≡ one_if (waits_in s g) = ap (λ m. one_if (not m && waits_in s g)) unmet in
      omega arith

  -- one group fewer is unmet
  pub met_count_unmet : count_by is_unmet (changed_at d.counts k met_count) + 1 ≡ count_by is_unmet d.counts
  met_count_unmet =
      let e = count_by-changed is_unmet d.counts k met_count c at_count in
      let was : one_if (is_unmet c) ≡ 1 = ap (λ m. one_if (not m)) unmet in
      omega arith

  -- of a depend that keeps its counts
  module _ (one : IsListed d) where
    pub unmet_before : count_by is_unmet (changed_at d.counts k met_count) + 1 ≡ d.unmet
    unmet_before = met_count_unmet ∙ sym one.unmet_kept

    pub unsatisfied : is_satisfied (watch_by d) ≡ false
    unsatisfied = satisfied_by d one.counted one.unmet_kept ∙ ne_eqb d.unmet 0 (λ none. absurd (omega (arith, unmet_before)))

    pub satisfied_then : is_satisfied (watch_by (met_at k d)) ≡ eqb d.unmet 1
    satisfied_then = satisfied_by (met_at k d) (length-changed_at d.counts k met_count ∙ one.counted) (omega (arith, unmet_before)) ∙ by_last (places d.unmet 1) where
      by_last : (d.unmet ≡ 1) ⊎ (d.unmet ≢ 1) → eqb (d.unmet - 1) 0 ≡ eqb d.unmet 1
      by_last (inl last) = eq-eqb (d.unmet - 1) 0 (omega arith) ∙ sym (eq-eqb d.unmet 1 last)
      by_last (inr more) = ne_eqb (d.unmet - 1) 0 (λ none. more (omega (arith, unmet_before))) ∙ sym (ne_eqb d.unmet 1 more)
