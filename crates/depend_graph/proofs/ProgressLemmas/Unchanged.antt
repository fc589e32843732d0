-- What changes nothing.
use Rattle.std.proofs.Common.{◌≡◌, ◌≤◌, ℕ, zero, suc, Bool, true, false, not, cond, eqb, List, [], ◌∷◌, map, length, Some, refl, sym, ap, subst, ◌∙◌, ◌⊎◌, inl, inr, arith}
use Rattle.std.specs.Prelude.{◌&&◌, ◌||◌}
use Rattle.std.specs.List.{slice_get, slice_set, filter, list_any}
use Rattle.std.proofs.lemmas.Bool.{cases_Bool}
use Rattle.std.proofs.lemmas.Option.{same_Some}
use Rattle.farm_types.specs.declared.depend.Group.{Group}
use Rattle.farm_types.specs.Depends.{are_done}
use Rattle.farm_types.proofs.Lists.{and_both}
use Rattle.depend_edges.specs.Listed.{AllListed, ListedLists, has_number, is_enough, is_there}
use Rattle.depend_edges.specs.declared.listed.Count.{Count}
use Rattle.depend_edges.proofs.Targets.{are_done_by, edges_counted, targets_in}
use Rattle.depend_graph.specs.Graph.{GraphLists, HasOpened, OpenedLists, Watch, completed, completed_in, has_opened, is_completed, is_flagged, nothing_opened, numbers_from, opened_between, with_done}
use Rattle.depend_graph.specs.Inside.{there_of, watches}
use Rattle.depend_graph.specs.Watches.{AllCounted, watch_by, watched_by}
use Rattle.depend_graph.proofs.ProgressLemmas.Finished.{watched_changed, watches_changed}
use Rattle.depend_graph.proofs.ProgressLemmas.FlowKept.{never_opened, never_satisfied}
use Rattle.depend_graph.proofs.GoingLemmas.Thinned.{mapped_there}
use Rattle.farm_types.specs.declared.limits.TheConstants.{SLOT_LIMIT}

-- ---- a flag that is so already

flag_same : (done : List Bool) (slot : ℕ) (flag : Bool) → is_flagged done slot ≡ flag → slice_set done slot flag ≡ done
flag_same [] slot flag same = refl
flag_same (b ∷ bs) zero flag same = ap (λ (x : Bool). x ∷ bs) (sym same)
flag_same (b ∷ bs) (suc slot) flag same = ap (λ (xs : List Bool). b ∷ xs) (flag_same bs slot flag same)

-- no flag past the last
pub flag_past : (done : List Bool) (slot : ℕ) (flag : Bool) → length done ≤ slot → slice_set done slot flag ≡ done
flag_past [] slot flag past = refl
flag_past (b ∷ bs) zero flag past = absurd (omega arith)
flag_past (b ∷ bs) (suc slot) flag past = ap (λ (xs : List Bool). b ∷ xs) (flag_past bs slot flag (omega arith))

pub flag_stays : (done : List Bool) (slot : ℕ) (flag : Bool) → is_flagged done slot ≡ flag → slice_set done slot flag ≡ done
flag_stays done slot flag same = flag_same done slot flag same

-- ---- a group whose targets are done is met already

module _ (done : List Bool) (slot : ℕ) (ds : List ListedLists) (listed : AllListed ds) (counted : AllCounted done ds) where
  watched_stays : (g : Group) (c : Count) → (is_completed done slot g ≡ true → c.met ≡ true) → watched_by g c ≡ completed done slot (watched_by g c)
  watched_stays g c met = by_done (cases_Bool (is_completed done slot g)) where
    by_done : (is_completed done slot g ≡ true) ⊎ (is_completed done slot g ≡ false) → watched_by g c ≡ completed done slot (watched_by g c)
    by_done (inl is) = (λ i. record { group = g; met = met is i }) ∙ ap (λ b. cond b (record { group = g; met = true }) (watched_by g c)) (sym is)
    by_done (inr not_yet) = ap (λ b. cond b (record { group = g; met = true }) (watched_by g c)) (sym not_yet)

  one_stays : (p : ℕ) (d e : ListedLists) → slice_get ds p ≡ Some d → slice_get ds p ≡ Some e → watch_by e ≡ completed_in done slot (watch_by d)
  one_stays p d e at_d at_e =
      let same : e ≡ d = same_Some e d (sym at_e ∙ at_d) in
      let one = listed p d at_d in
      let kept = counted p d at_d in
      let groups = watched_changed (completed done slot) d.groups d.counts d.counts one.counted one.counted
      (λ k g c n at_g at_c at_n.
      let count : n ≡ c = same_Some n c (sym at_n ∙ at_c) in
      ap (watched_by g) count
      ∙ watched_stays g c
      (λ is. kept.met_kept k g c at_g at_c
      (ap (is_enough g) (kept.undone_kept k c at_c ∙ (edges_counted d.edges d.groups k (λ t. not (is_flagged done t)) one.aims ∙ ap (targets_in (λ t. not (is_flagged done t))) at_g))
      ∙ (sym (are_done_by (is_flagged done) g) ∙ (and_both (list_any (λ t. eqb t slot) g.targets) (are_done (is_flagged done) g) is).1))))
      in
      ap watch_by same ∙ λ i. record { depend = d.depend; groups = groups i }

  pub all_stay : watches ds ≡ map (completed_in done slot) (watches ds)
  all_stay = watches_changed (completed_in done slot) ds ds refl one_stays

-- a frame that is so already
pub done_already : (done : List Bool) (slot : ℕ) (ds : List ListedLists) → AllListed ds → AllCounted done ds → (flag : Bool) → slice_set done slot flag ≡ done
    → ◌≡◌ {A = GraphLists} (record { done = done; depends = watches ds }) (with_done (record { done = done; depends = watches ds }) slot flag)
done_already done slot ds listed counted true same =
    (λ i. record { done = done; depends = all_stay done slot ds listed counted i })
    ∙ λ i. record { done = sym same i; depends = map (completed_in (sym same i) slot) (watches ds) }
done_already done slot ds listed counted false same = λ i. record { done = sym same i; depends = watches ds }

-- and so it is with those that weren't forgotten
pub done_there : (done : List Bool) (slot : ℕ) (ds : List ListedLists) → AllListed ds → AllCounted done ds → (flag : Bool) → slice_set done slot flag ≡ done
    → ◌≡◌ {A = GraphLists} (record { done = done; depends = watches (there_of ds) }) (with_done (record { done = done; depends = watches (there_of ds) }) slot flag)
done_there done slot ds listed counted true same =
    (λ i. record { done = done; depends = mapped_there ds ds refl (completed_in done slot) (all_stay done slot ds listed counted) i })
    ∙ λ i. record { done = sym same i; depends = map (completed_in (sym same i) slot) (watches (there_of ds)) }
done_there done slot ds listed counted false same = λ i. record { done = sym same i; depends = watches (there_of ds) }

-- ---- nothing opened

pub filter_none : (test : ℕ → Bool) → ((n : ℕ) → test n ≡ false) → (ns : List ℕ) → filter test ns ≡ []
filter_none test none [] = refl
filter_none test none (n ∷ ns) = ap (λ b. cond b (n ∷ filter test ns) (filter test ns)) (none n) ∙ filter_none test none ns

pub opened_none : (ws : List Watch) (opened : OpenedLists) → opened ≡ nothing_opened → HasOpened ws ws opened
unfolding opened_between
opened_none ws opened none =
    subst (HasOpened ws ws) (sym none) (record { slots = sym (filter_none (has_opened ws ws) (never_opened ws) (numbers_from SLOT_LIMIT 0)); satisfied = λ n. sym (never_satisfied ws n) })

-- ---- a number among the depends

pub numbers_any : (n : ℕ) (ds : List ListedLists) → list_any (λ (w : Watch). eqb w.depend n) (watches (there_of ds)) ≡ list_any (has_number n) ds
numbers_any n [] = refl
numbers_any n (d ∷ ds) = by_mark (is_there d) (numbers_any n ds) where
  by_mark : (m : Bool) → list_any (λ (w : Watch). eqb w.depend n) (watches (there_of ds)) ≡ list_any (has_number n) ds
      → list_any (λ (w : Watch). eqb w.depend n) (watches (cond m (d ∷ there_of ds) (there_of ds))) ≡ ((m && eqb d.depend n) || list_any (has_number n) ds)
  by_mark true more = ap (λ b. eqb d.depend n || b) more
  by_mark false more = more
