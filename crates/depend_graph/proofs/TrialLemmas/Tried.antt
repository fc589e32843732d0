-- A trial follows what would become of the graph.
use Rattle.std.proofs.Common.{◌≡◌, ◌≢◌, ◌<◌, ℕ, ◌+◌, ◌-◌, Bool, true, false, not, cond, List, [], ◌∷◌, ◌++◌, map, Option, Some, refl, sym, ap, subst, ◌∙◌, ◌⊎◌, inl, inr, arith}
use Rattle.std.specs.Prelude.{◌&&◌, ◌||◌}
use Rattle.std.specs.List.{slice_get, count_by}
use Rattle.std.proofs.lemmas.Bool.{eq-eqb, ne_eqb}
use Rattle.std.proofs.lemmas.List.Sums.{sum_by-append}
use Rattle.std.proofs.lemmas.Option.{same_Some, slice_get_within}
use Rattle.farm_types.specs.declared.depend.Group.{Group}
use Rattle.farm_types.specs.Sums.{total_at}
use Rattle.farm_types.proofs.Changed.{places}
use Rattle.depend_edges.specs.Counts.{becomes_due, fewer, is_due, lowered}
use Rattle.depend_edges.specs.Listed.{AllListed, ListedLists, is_enough}
use Rattle.depend_edges.specs.declared.listed.Count.{Count}
use Rattle.depend_edges.proofs.Counts.{count_by-cons, one_if, total_at-changed_other, total_at-changed_same}
use Rattle.depend_edges.proofs.Targets.{enough_fewer}
use Rattle.depend_graph.specs.Flow.{Flow, Waiting, all_freed, freed, lowered_flow, met_flow, passed_flow}
use Rattle.depend_graph.specs.Kept.{still_of}
use Rattle.depend_graph.specs.Trial.{Agrees, IsHit, IsLaid, count_or, is_at, key_of}
use Rattle.depend_graph.proofs.ProgressLemmas.Passed.{flow_depends, stepped, stepped_counts, stepped_still, turned}
use Rattle.depend_graph.proofs.ProgressLemmas.Recounted.{IsElsewhere, IsHere, recounted}

-- ---- those who are freed, by slot

abbrev less : ℕ → ℕ
less n = n - 1

pub freed_total : (w : Waiting) (ws : List ℕ) (s : ℕ) → total_at (all_freed w ws).unmet s ≡ total_at w.unmet s - count_by (is_at s) ws
freed_total w [] s = omega arith
freed_total w (x ∷ xs) s =
    let more = freed_total (freed w x) xs s in
    let counted = count_by-cons (is_at s) x xs in
    elim (places x s) as (λ c. total_at (all_freed w (x ∷ xs)).unmet s ≡ total_at w.unmet s - count_by (is_at s) (x ∷ xs)) [
      | inl same ↦
          let here : total_at (freed w x).unmet s ≡ total_at w.unmet s - 1 = subst (λ (t : ℕ). total_at (freed w x).unmet t ≡ total_at w.unmet t - 1) same (total_at-changed_same w.unmet x less refl) in
          omega (arith, more, here, counted, ap one_if (eq-eqb x s same))
      | inr other ↦
          let here : total_at (freed w x).unmet s ≡ total_at w.unmet s = total_at-changed_other w.unmet x s less (λ e. other (sym e)) in
          omega (arith, more, here, counted, ap one_if (ne_eqb x s other))
    ]

pub at_both : (s : ℕ) (xs ys : List ℕ) → count_by (is_at s) (xs ++ ys) ≡ count_by (is_at s) xs + count_by (is_at s) ys
at_both s xs ys = sum_by-append (λ n. cond (is_at s n) 1 0) xs ys

-- ---- keys

pub key_apart : (p k q m : ℕ) → k < 4294967296 → m < 4294967296 → ((q ≡ p) × (m ≡ k) → ⊥) → key_of q m ≢ key_of p k
key_apart p k q m small_k small_m apart same =
    let place : q ≡ p = omega arith in
    let group : m ≡ k = omega arith in
    apart (place, group)

-- ---- marks

mark_by : (was enough_was enough_now : Bool) → (enough_was ≡ true → enough_now ≡ true) → ((not (was || enough_was) && enough_now) || (was || enough_was)) ≡ (was || enough_now)
mark_by true enough_was enough_now grows = refl
mark_by false true enough_now grows = sym (grows refl)
mark_by false false true grows = refl
mark_by false false false grows = refl

pub due_by : (was enough_was enough_now : Bool) → (not (was || enough_was) && enough_now) ≡ (not was && (not enough_was && enough_now))
due_by true enough_was enough_now = refl
due_by false true enough_now = refl
due_by false false enough_now = refl

-- ---- one target of a group fewer is undone

module _ (olds : List ListedLists) (unmet : List ℕ) (over laid : ℕ → Option ℕ) (xs ys : List ℕ) (f : Flow) (agrees : Agrees olds unmet over xs f.depends f.unmet) (listed : AllListed olds)
    (structure : map still_of f.depends ≡ map still_of olds) (p k : ℕ) (d e : ListedLists) (g : Group) (c n : Count) (at_d : slice_get olds p ≡ Some d) (at_e : slice_get f.depends p ≡ Some e)
    (at_g : slice_get d.groups k ≡ Some g) (at_c : slice_get d.counts k ≡ Some c) (at_n : slice_get e.counts k ≡ Some n) (hit : IsHit (key_of p k) g c over laid xs ys)
  where
    before : IsLaid (over (key_of p k)) g c n
    before = agrees.counts p k d e g c n at_d at_e at_g at_c at_n

    abbrev new : Flow
    new = passed_flow p k e g n f

    due_is : is_due g (fewer n) ≡ becomes_due g c (count_or c.undone (over (key_of p k)))
    due_is = (λ i. not (before.met i) && is_enough g (n.undone - 1)) ∙ (due_by c.met (is_enough g n.undone) (is_enough g (n.undone - 1)) ∙ λ i. becomes_due g c (before.undone i))

    -- ---- how many unmet groups each would wait in

    waits_by : (b : Bool) (s : ℕ) → total_at (cond b (met_flow p k (lowered k e) g (lowered_flow p k f)) (lowered_flow p k f)).unmet s ≡ total_at unmet s - count_by (is_at s) (cond b (xs ++ g.waiters) xs)
    waits_by true s = omega (arith, freed_total (record { unmet = f.unmet; slots = f.opened.slots }) g.waiters s, agrees.unmet_read s, at_both s xs g.waiters)
    waits_by false s = agrees.unmet_read s

    new_read : (s : ℕ) → total_at new.unmet s ≡ total_at unmet s - count_by (is_at s) ys
    new_read s = waits_by (is_due g (fewer n)) s ∙ (ap (λ b. total_at unmet s - count_by (is_at s) (cond b (xs ++ g.waiters) xs)) due_is ∙ ap (λ zs. total_at unmet s - count_by (is_at s) zs) (sym hit.freed_then))

    -- ---- the counts

    laid_here : IsLaid (laid (key_of p k)) g c (turned (is_due g (fewer n)) n)
    laid_here =
        record {
          undone = ap less before.undone ∙ ap (count_or c.undone) (sym hit.counts.here);
          met =
              (λ i. (not (before.met i) && is_enough g (n.undone - 1)) || before.met i)
              ∙ mark_by c.met (is_enough g n.undone) (is_enough g (n.undone - 1)) (enough_fewer g (n.undone - 1) n.undone (omega arith));
        }

    small : (q m : ℕ) (a : ListedLists) (b : Count) → slice_get olds q ≡ Some a → slice_get a.counts m ≡ Some b → m < 4294967296
    small q m a b at_a at_b = omega (arith, slice_get_within a.counts m b at_b, (listed q a at_a).counted, (listed q a at_a).groups_within)

    new_laid : (q m : ℕ) (a b : ListedLists) (x : Group) (old now : Count) → slice_get olds q ≡ Some a → slice_get new.depends q ≡ Some b → slice_get a.groups m ≡ Some x → slice_get a.counts m ≡ Some old
        → slice_get b.counts m ≡ Some now → IsLaid (laid (key_of q m)) x old now
    new_laid q m a b x old now at_a at_b at_x at_old at_now =
        by_case
        (recounted f.depends p k e n (stepped (is_due g (fewer n)) k) (turned (is_due g (fewer n))) at_e at_n (stepped_counts (is_due g (fewer n)) k e) (stepped_still (is_due g (fewer n)) k e) q m b now
        (ap (λ (ds : List ListedLists). slice_get ds q) (sym (flow_depends (is_due g (fewer n)) p k (lowered k e) g f)) ∙ at_b) at_now)
      where
        by_case : (IsHere p k q m e b n now (turned (is_due g (fewer n)))) ⊎ (IsElsewhere f.depends p k q m b now) → IsLaid (laid (key_of q m)) x old now
        by_case (inl here) =
            let same : d ≡ a = same_Some d a (sym at_d ∙ (ap (slice_get olds) (sym here.place) ∙ at_a)) in
            let group : g ≡ x = same_Some g x (sym at_g ∙ ((λ i. slice_get (same i).groups (sym here.group i)) ∙ at_x)) in
            let count : c ≡ old = same_Some c old (sym at_c ∙ ((λ i. slice_get (same i).counts (sym here.group i)) ∙ at_old)) in
            let key : key_of p k ≡ key_of q m = λ i. key_of (sym here.place i) (sym here.group i) in
            let at_key : IsLaid (laid (key_of q m)) g c (turned (is_due g (fewer n)) n) = subst (λ (j : ℕ). IsLaid (laid j) g c (turned (is_due g (fewer n)) n)) key laid_here in
            let at_group : IsLaid (laid (key_of q m)) x c (turned (is_due g (fewer n)) n) = subst (λ (y : Group). IsLaid (laid (key_of q m)) y c (turned (is_due g (fewer n)) n)) group at_key in
            let at_count : IsLaid (laid (key_of q m)) x old (turned (is_due g (fewer n)) n) = subst (λ (y : Count). IsLaid (laid (key_of q m)) x y (turned (is_due g (fewer n)) n)) count at_group in
            subst (λ (y : Count). IsLaid (laid (key_of q m)) x old y) (sym here.count_is) at_count
        by_case (inr other) =
            let stays : laid (key_of q m) ≡ over (key_of q m) = hit.counts.elsewhere (key_of q m) (key_apart p k q m (small p k d c at_d at_c) (small q m a old at_a at_old) other.apart) in
            subst (λ (o : Option ℕ). IsLaid o x old now) (sym stays) (agrees.counts q m a other.was x old now at_a other.was_there at_x at_old other.count_there)

    pub step_agrees : Agrees olds unmet laid ys (passed_flow p k e g n f).depends (passed_flow p k e g n f).unmet
    step_agrees = record { counts = new_laid; unmet_read = new_read }
