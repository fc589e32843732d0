-- The groups of one depend are met, one after the other.
use Rattle.std.proofs.Common.{◌≡◌, ◌≢◌, ◌<◌, ℕ, ◌+◌, Bool, true, false, cond, eqb, List, [], map, length, Some, refl, sym, ap, subst, ◌∙◌, ◌⊎◌, inl, inr, arith}
use Rattle.std.specs.List.{count_by, slice_get}
use Rattle.std.proofs.lemmas.Bool.{cases_Bool, eq-eqb}
use Rattle.std.proofs.lemmas.Option.{same_Some, slice_get_within}
use Rattle.farm_types.specs.declared.depend.Group.{Group}
use Rattle.farm_types.specs.Farm.{changed_at}
use Rattle.farm_types.proofs.Changed.{changed_at_each, changed_at_other, changed_at_same, places}
use Rattle.farm_types.proofs.Lists.{slice_get_below}
use Rattle.depend_edges.specs.Counts.{met_at, met_count}
use Rattle.depend_edges.specs.Listed.{ListedLists, is_enough, is_there}
use Rattle.depend_edges.specs.Places.{IsGroupAt}
use Rattle.depend_edges.specs.declared.listed.Count.{Count}
use Rattle.depend_graph.specs.Flow.{Flow, flow_of, met_flow}
use Rattle.depend_graph.specs.Graph.{met_group, met_where, nothing_opened}
use Rattle.depend_graph.specs.Inside.{KeepsDepends, KeepsSums, watches}
use Rattle.depend_graph.specs.Kept.{KeepsFlow, Still}
use Rattle.depend_graph.specs.Passing.{IsDropping}
use Rattle.depend_graph.specs.Watches.{KeepsCounts, is_undone, watch_by, watched_with}
use Rattle.depend_graph.proofs.ProgressLemmas.Finished.{length_still, watched_changed, watches_changed}
use Rattle.depend_graph.proofs.ProgressLemmas.FlowKept.{start_kept}
use Rattle.depend_graph.proofs.GoingLemmas.Gone.{few_left, met_stays, other_empty}
use Rattle.depend_graph.proofs.ProgressLemmas.GroupMet.{met_kept}
use Rattle.depend_graph.proofs.ProgressLemmas.Still.{still_pair}

-- the depend and its group at places that are there
pub group_place : (olds : List ListedLists) (f : Flow) → KeepsFlow olds f → (q k : ℕ) (old : ListedLists) → slice_get olds q ≡ Some old → k < length old.groups → IsGroupAt f.depends q k
group_place olds f kept q k old at_old below =
    let d = slice_get_below f.depends q (omega (arith, slice_get_within olds q old at_old, length_still olds f.depends kept.structure)) in
    let still = still_pair olds f.depends kept.structure q old d.0 at_old d.1 in
    let groups = ap (λ (s : Still). length s.groups) still in
    let one = kept.listed q d.0 d.1 in
    let g = slice_get_below d.0.groups k (omega arith) in
    let c = slice_get_below d.0.counts k (omega (arith, one.counted)) in
    record { listed = d.0; one = g.0; count = c.0; listed_there = d.1; group_there = g.1; count_there = c.1 }

pub start_dropping : (olds : List ListedLists) (unmet : List ℕ) (left q : ℕ) → KeepsDepends olds → KeepsSums unmet left olds → IsDropping olds q 0 (flow_of olds unmet left nothing_opened)
start_dropping olds unmet left q depends sums =
    record {
      flow = start_kept olds unmet left depends.listed (few_left olds depends) sums;
      elsewhere = λ p apart. refl;
      counts = λ done counted. counted;
      all_met = λ k d c at at_count below. absurd (omega arith);
    }

module _ (olds : List ListedLists) (q k : ℕ) (f : Flow) (drops : IsDropping olds q k f) (d : ListedLists) (g : Group) (c : Count)
    (at : slice_get f.depends q ≡ Some d) (at_group : slice_get d.groups k ≡ Some g) (at_count : slice_get d.counts k ≡ Some c)
  where
    -- one that was met before
    was_met : c.met ≡ true → IsDropping olds q (k + 1) f
    was_met met =
        record {
          flow = drops.flow;
          elsewhere = drops.elsewhere;
          counts = drops.counts;
          all_met = λ m e n at_e at_n below.
              elim (places m k) as (λ w. n.met ≡ true) [
                | inl here ↦
                    let same : d ≡ e = same_Some d e (sym at ∙ at_e) in
                    let one : c ≡ n = same_Some c n (sym at_count ∙ (ap (λ (x : ListedLists). slice_get x.counts k) same ∙ (ap (slice_get e.counts) (sym here) ∙ at_n))) in
                    ap (λ (x : Count). x.met) (sym one) ∙ met
                | inr apart ↦ drops.all_met m e n at_e at_n (omega (arith, apart))
              ];
        }

    met_counts : (done : List Bool) → KeepsCounts done d → KeepsCounts done (met_at k d)
    met_counts done kept =
        record {
          undone_kept = changed_at_each (λ m n. n.undone ≡ count_by (is_undone done m) d.edges) d.counts k met_count (λ x at_x. kept.undone_kept k x at_x) (λ m x apart at_x. kept.undone_kept m x at_x);
          met_kept = λ m y n at_y at_n enough.
              changed_at_each (λ j z. slice_get d.groups j ≡ Some y → is_enough y z.undone ≡ true → z.met ≡ true) d.counts k met_count (λ x at_x at_j is. refl) (λ j x apart at_x at_j is. kept.met_kept j y x at_j at_x is)
              m n at_n at_y enough;
        }

    now_met : c.met ≡ false → IsDropping olds q (k + 1) (met_flow q k d g f)
    now_met unmet =
        record {
          flow = met_kept olds f drops.flow q k d g c at at_group at_count unmet;
          elsewhere = λ p apart. changed_at_other f.depends q p (met_at k) apart ∙ drops.elsewhere p apart;
          counts = λ done counted.
              let before = drops.counts done counted in
              changed_at_each (λ p e. KeepsCounts done e) f.depends q (met_at k) (λ x at_x. subst (λ (y : ListedLists). KeepsCounts done (met_at k y)) (same_Some d x (sym at ∙ at_x)) (met_counts done (before q d at)))
              (λ p x apart at_x. before p x at_x);
          all_met = λ m e n at_e at_n below.
              let same : met_at k d ≡ e = same_Some (met_at k d) e (sym (changed_at_same f.depends q (met_at k) d at) ∙ at_e) in
              let at_m : slice_get (changed_at d.counts k met_count) m ≡ Some n = ap (λ (x : ListedLists). slice_get x.counts m) same ∙ at_n in
              changed_at_each (λ j x. j < k + 1 → x.met ≡ true) d.counts k met_count (λ x at_x low. refl) (λ j x apart at_x low. drops.all_met j d x at at_x (omega (arith, apart))) m n at_m below;
        }

    pub step_dropped : (new : Flow) → new ≡ cond c.met f (met_flow q k d g f) → IsDropping olds q (k + 1) new
    step_dropped new is = by_mark (cases_Bool c.met) where
      by_mark : (c.met ≡ true) ⊎ (c.met ≡ false) → IsDropping olds q (k + 1) new
      by_mark (inl met) = subst (IsDropping olds q (k + 1)) (sym (is ∙ ap (λ b. cond b f (met_flow q k d g f)) met)) (was_met met)
      by_mark (inr unmet) = subst (IsDropping olds q (k + 1)) (sym (is ∙ ap (λ b. cond b f (met_flow q k d g f)) unmet)) (now_met unmet)

-- ---- the end

module _ (olds : List ListedLists) (q count : ℕ) (f : Flow) (drops : IsDropping olds q count f) (before : KeepsDepends olds) (one : ListedLists) (at_one : slice_get olds q ≡ Some one) (there : is_there one ≡ true) (all : count ≡ length one.groups) where
  dropped_one : (p : ℕ) (d e : ListedLists) → slice_get olds p ≡ Some d → slice_get f.depends p ≡ Some e → watch_by e ≡ met_where one.depend (watch_by d)
  dropped_one p d e at_d at_e = by_place (places p q) where
    empty_else : (x : ListedLists) → p ≢ q → (p ≡ q) ⊎ ((watch_by x).groups ≡ []) → (watch_by x).groups ≡ []
    empty_else x apart (inl equal) = absurd (apart equal)
    empty_else x apart (inr none) = none

    by_place : (p ≡ q) ⊎ (p ≢ q) → watch_by e ≡ met_where one.depend (watch_by d)
    by_place (inr apart) =
        let same : e ≡ d = same_Some e d (sym at_e ∙ (drops.elsewhere p apart ∙ at_d)) in
        ap watch_by same ∙ sym (met_stays one.depend (watch_by d) (λ equal. empty_else d apart (other_empty olds before p q d one at_d at_one there equal)))
    by_place (inl here) =
        let same : d ≡ one = same_Some d one (sym at_d ∙ (ap (slice_get olds) here ∙ at_one)) in
        let named : eqb d.depend one.depend ≡ true = eq-eqb d.depend one.depend (ap (λ (x : ListedLists). x.depend) same) in
        let still = still_pair olds f.depends drops.flow.structure p d e at_d at_e in
        let groups : d.groups ≡ e.groups = ap (λ (s : Still). s.groups) still in
        let new = drops.flow.listed p e at_e in
        let long = ap (λ (gs : List Group). length gs) groups in
        let size = ap (λ (x : ListedLists). length x.groups) same in
        let was = before.listed p d at_d in
        let marks : watched_with e.groups e.counts ≡ map met_group (watched_with e.groups d.counts) =
        watched_changed met_group e.groups d.counts e.counts (was.counted ∙ long) new.counted
        (λ k g c n at_g at_c at_n. λ i. record { group = g; met = drops.all_met k e n (ap (slice_get f.depends) (sym here) ∙ at_e) at_n (omega (arith, slice_get_within e.groups k g at_g)) i })
        in
        let all_groups : watched_with e.groups e.counts ≡ map met_group (watched_with d.groups d.counts) = marks ∙ ap (λ (gs : List Group). map met_group (watched_with gs d.counts)) (sym groups) in
        (λ i. record { depend = sym (ap (λ (s : Still). s.depend) still) i; groups = all_groups i })
        ∙ sym (ap (λ b. cond b (record { depend = d.depend; groups = map met_group (watched_with d.groups d.counts) }) (watch_by d)) named)

  pub dropped_all : watches f.depends ≡ map (met_where one.depend) (watches olds)
  dropped_all = watches_changed (met_where one.depend) olds f.depends (length_still olds f.depends drops.flow.structure) dropped_one
