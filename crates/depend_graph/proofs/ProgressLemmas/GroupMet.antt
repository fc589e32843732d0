-- A group is met: what is kept by slot and what is listed as opened goes along.
use Rattle.std.proofs.Common.{◌≡◌, ◌≤◌, ℕ, ◌+◌, ◌-◌, Bool, true, false, cond, eqb, ltb, List, [], ◌∷◌, ◌++◌, length, Some, refl, sym, ap, subst, ◌∙◌, ◌⊎◌, inl, inr, arith, length-append}
use Rattle.std.specs.Prelude.{◌&&◌, ◌||◌}
use Rattle.std.specs.List.{slice_get, count_by, list_any}
use Rattle.std.proofs.lemmas.Bool.{cases_Bool, eq-eqb, eqb-true, ne_eqb, lt-ltb, false≢true}
use Rattle.std.proofs.lemmas.Option.{same_Some, slice_get_within, get_or_from_slice_get}
use Rattle.farm_types.specs.declared.depend.Group.{Group}
use Rattle.farm_types.specs.declared.limits.TheConstants.{MOST_DEPENDS}
use Rattle.farm_types.specs.Depends.{waits_in}
use Rattle.farm_types.specs.Farm.{changed_at}
use Rattle.farm_types.specs.Sums.{total_at}
use Rattle.farm_types.proofs.Changed.{changed_at_each, length-changed_at, places}
use Rattle.farm_types.proofs.ChangedLists.{map-changed_at_kept}
use Rattle.depend_edges.specs.Counts.{met_at, met_count}
use Rattle.depend_edges.specs.Groups.{IsGroup}
use Rattle.depend_edges.specs.Listed.{IsListed, ListedLists, is_unmet}
use Rattle.depend_edges.specs.declared.listed.Count.{Count}
use Rattle.depend_edges.proofs.Counts.{count_by-changed, one_if}
use Rattle.depend_graph.specs.Flow.{Flow, all_freed, is_last_of, met_flow, waiting_in}
use Rattle.depend_graph.specs.Graph.{groups_left, has_opened, is_satisfied, unmet_in, unmet_of, was_satisfied}
use Rattle.depend_graph.specs.Inside.{KeepsSums, watches}
use Rattle.depend_graph.specs.Kept.{KeepsFlow, Still, is_left, still_of}
use Rattle.depend_graph.specs.Watches.{watch_by, watched_with}
use Rattle.depend_graph.proofs.ProgressLemmas.Freed.{freed_count, freed_room, freed_slots, freed_unmet, is_among, is_slot}
use Rattle.depend_graph.proofs.ProgressLemmas.Satisfied.{any_where, satisfied_step}
use Rattle.depend_graph.proofs.ProgressLemmas.Still.{still_at}
use Rattle.depend_graph.proofs.ProgressLemmas.Watches.{length-watched, met_unmet_in, satisfied_by, satisfied_then, unmet_before, unsatisfied, watches_change, weight_of}

weight_by : (d : ListedLists) → IsListed d → weight_of (watch_by d) ≡ cond (eqb d.unmet 0) 0 (length d.groups)
weight_by d one = ap (λ b. cond b 0 (length (watched_with d.groups d.counts))) (satisfied_by d one.counted one.unmet_kept) ∙ ap (cond (eqb d.unmet 0) 0) (length-watched d.groups d.counts one.counted)

-- ---- whether a frame has opened

-- one unmet group fewer, out of one at least
opens : (was before now : ℕ) (among : Bool) → now + one_if among ≡ before → before ≤ was
    → one_if (ltb 0 was && eqb before 0) + one_if (among && eqb before 1) ≡ one_if (ltb 0 was && eqb now 0)
opens was before now true fell less =
    elim (places before 1) as (λ c. one_if (ltb 0 was && eqb before 0) + one_if (true && eqb before 1) ≡ one_if (ltb 0 was && eqb now 0)) [
      | inl last ↦
          let one : eqb before 1 ≡ true = eq-eqb before 1 last in
          let some : eqb before 0 ≡ false = ne_eqb before 0 (λ e. absurd (omega arith)) in
          let none : eqb now 0 ≡ true = eq-eqb now 0 (omega arith) in
          let waited : ltb 0 was ≡ true = lt-ltb 0 was (omega arith) in
          rw (waited, one, some, none) refl
      | inr more ↦
          let one : eqb before 1 ≡ false = ne_eqb before 1 more in
          let some : eqb before 0 ≡ false = ne_eqb before 0 (λ e. absurd (omega arith)) in
          let left : eqb now 0 ≡ false = ne_eqb now 0 (λ e. more (omega arith)) in
          rw (one, some, left) (off (ltb 0 was))
    ]
  where
    off : (b : Bool) → one_if (b && false) + 0 ≡ one_if (b && false)
    off true = refl
    off false = refl
opens was before now false fell less =
    let same : now ≡ before = omega arith in
    subst (λ (n : ℕ). one_if (ltb 0 was && eqb before 0) + 0 ≡ one_if (ltb 0 was && eqb n 0)) (sym same) (omega arith)

-- ---- a group is met

module _ (olds : List ListedLists) (f : Flow) (kept : KeepsFlow olds f) (q k : ℕ) (d : ListedLists) (g : Group) (c : Count)
    (at : slice_get f.depends q ≡ Some d) (at_group : slice_get d.groups k ≡ Some g) (at_count : slice_get d.counts k ≡ Some c) (unmet : c.met ≡ false)
  where
    one : IsListed d
    one = kept.listed q d at

    grouped : IsGroup g
    grouped = subst IsGroup (get_or_from_slice_get d.groups k g g at_group) (one.each k g (slice_get_within d.groups k g at_group))

    abbrev news : List ListedLists
    news = changed_at f.depends q (met_at k)

    -- each who waits in the group waits in one unmet group fewer
    fell : (s : ℕ) → unmet_of (watches news) s + one_if (waits_in s g) ≡ unmet_of (watches f.depends) s
    fell s =
        let e = watches_change (unmet_in s) f.depends q (met_at k) d at in
        omega (arith, met_unmet_in d k g c at_group at_count unmet s)

    all_wait : (t : ℕ) → is_among t g.waiters ≡ true → 1 ≤ total_at f.unmet t
    all_wait t among = omega (arith, fell t, ap one_if among, kept.sums.unmet_kept t)

    -- one group fewer of the depend is unmet
    was_unmet : count_by is_unmet (changed_at d.counts k met_count) + 1 ≡ d.unmet
    was_unmet = unmet_before d k g c at_group at_count unmet one

    met_listed : IsListed (met_at k d)
    met_listed =
        record {
          counted = length-changed_at d.counts k met_count ∙ one.counted;
          aims = one.aims;
          edges_within = one.edges_within;
          groups_within = one.groups_within;
          each = one.each;
          unmet_kept = omega (arith, was_unmet);
        }

    listed_each : (p : ℕ) (e : ListedLists) → slice_get news p ≡ Some e → IsListed e
    listed_each =
        changed_at_each (λ p e. IsListed e) f.depends q (met_at k) (λ x at_x. subst (λ (y : ListedLists). IsListed (met_at k y)) (same_Some d x (sym at ∙ at_x)) met_listed)
        (λ p x apart at_x. kept.listed p x at_x)

    not_satisfied : is_satisfied (watch_by d) ≡ false
    not_satisfied = unsatisfied d k g c at_group at_count unmet one

    now_satisfied : is_satisfied (watch_by (met_at k d)) ≡ eqb d.unmet 1
    now_satisfied = satisfied_then d k g c at_group at_count unmet one

    -- ---- sums

    weight_now : (b : Bool) → eqb d.unmet 1 ≡ b → weight_of (watch_by (met_at k d)) ≡ cond b 0 (length d.groups)
    weight_now b is = ap (λ n. cond n 0 (length (watched_with d.groups (changed_at d.counts k met_count)))) (now_satisfied ∙ is) ∙ ap (cond b 0) (length-watched d.groups (changed_at d.counts k met_count) met_listed.counted)

    left_was : groups_left (watches news) + length d.groups ≡ f.left + weight_of (watch_by (met_at k d))
    left_was =
        let e = watches_change weight_of f.depends q (met_at k) d at in
        let was : weight_of (watch_by d) ≡ length d.groups = weight_by d one ∙ ap (λ b. cond b 0 (length d.groups)) (ne_eqb d.unmet 0 (λ none. absurd (omega (arith, was_unmet)))) in
        omega (arith, kept.sums.left_kept)

    left_by : (b : Bool) → eqb d.unmet 1 ≡ b → cond b (f.left - length d.groups) f.left ≡ groups_left (watches news)
    left_by true is = omega (arith, left_was, weight_now true is)
    left_by false is = omega (arith, left_was, weight_now false is)

    left_less : (b : Bool) → cond b (f.left - length d.groups) f.left ≤ f.left
    left_less true = omega arith
    left_less false = omega arith

    met_sums : KeepsSums (all_freed (waiting_in f) g.waiters).unmet (cond (is_last_of d) (f.left - length d.groups) f.left) news
    met_sums =
        record {
          unmet_kept = λ s. omega (arith, freed_unmet (waiting_in f) g.waiters s grouped.waiters_differ all_wait, fell s, kept.sums.unmet_kept s);
          unmet_counted = freed_count (waiting_in f) g.waiters ∙ kept.sums.unmet_counted;
          left_kept = left_by (eqb d.unmet 1) refl;
          left_within = omega (arith, left_less (eqb d.unmet 1), kept.sums.left_within);
        }

    -- ---- what is listed as opened

    opened_slots : (s : ℕ) → count_by (is_slot s) (all_freed (waiting_in f) g.waiters).slots ≡ one_if (has_opened (watches olds) (watches news) s)
    opened_slots s =
        freed_slots (waiting_in f) g.waiters s grouped.waiters_differ
        ∙ (ap (λ n. n + one_if (is_among s g.waiters && eqb (total_at f.unmet s) 1)) (kept.slots s)
        ∙ (ap (λ n. one_if (has_opened (watches olds) (watches f.depends) s) + one_if (is_among s g.waiters && eqb n 1)) (kept.sums.unmet_kept s)
        ∙ opens (unmet_of (watches olds) s) (unmet_of (watches f.depends) s) (unmet_of (watches news) s) (is_among s g.waiters) (fell s) (kept.fewer s)))

    old : (x : ListedLists) × (slice_get olds q ≡ Some x) × (still_of x ≡ still_of d)
    old = still_at olds f.depends kept.structure q d at

    old_unsatisfied : is_satisfied (watch_by old.0) ≡ false
    old_unsatisfied = by_old (cases_Bool (is_satisfied (watch_by old.0))) where
      by_old : (is_satisfied (watch_by old.0) ≡ true) ⊎ (is_satisfied (watch_by old.0) ≡ false) → is_satisfied (watch_by old.0) ≡ false
      by_old (inl was) = absurd (false≢true (sym not_satisfied ∙ kept.stays_satisfied q old.0 d old.1 at was))
      by_old (inr not_yet) = not_yet

    opened_depends : (n : ℕ) → list_any (λ m. eqb m n) (cond (is_last_of d) (f.opened.satisfied ++ d.depend ∷ []) f.opened.satisfied) ≡ was_satisfied (watches olds) (watches news) n
    opened_depends n =
        any_where (eqb d.unmet 1) f.opened.satisfied d.depend n
        ∙ (ap (λ b. b || (eqb d.depend n && eqb d.unmet 1)) (kept.satisfied n)
        ∙ (ap (λ m. was_satisfied (watches olds) (watches f.depends) n || (eqb m n && eqb d.unmet 1)) (sym (ap (λ (x : Still). x.depend) old.2))
        ∙ (ap (λ b. was_satisfied (watches olds) (watches f.depends) n || (eqb old.0.depend n && b)) (sym now_satisfied)
        ∙ sym (satisfied_step olds f.depends q (met_at k) old.0 d n old.1 at old_unsatisfied not_satisfied))))

    room_by : (b : Bool) → eqb d.unmet 1 ≡ b → length (cond b (f.opened.satisfied ++ d.depend ∷ []) f.opened.satisfied) + count_by is_left news ≤ MOST_DEPENDS
    room_by b is =
        let e = count_by-changed is_left f.depends q (met_at k) d at in
        let was : one_if (is_left d) ≡ 1 = ap one_if (lt-ltb 0 d.unmet (omega (arith, was_unmet))) in
        by_last b is (omega arith)
      where
        by_last : (b : Bool) → eqb d.unmet 1 ≡ b → count_by is_left news + 1 ≡ count_by is_left f.depends + one_if (is_left (met_at k d)) → length (cond b (f.opened.satisfied ++ d.depend ∷ []) f.opened.satisfied) + count_by is_left news ≤ MOST_DEPENDS
        by_last true last e =
            let gone : one_if (ltb 0 (d.unmet - 1)) ≡ 0 = ap (λ n. one_if (ltb 0 (n - 1))) (eqb-true d.unmet 1 last) in
            omega (arith, length-append f.opened.satisfied (d.depend ∷ []), kept.satisfied_room)
        by_last false more e = omega (arith, at_most (ltb 0 (d.unmet - 1)), kept.satisfied_room)
          where
            at_most : (b : Bool) → one_if b ≤ 1
            at_most true = omega arith
            at_most false = omega arith

    stays : (p : ℕ) (x e : ListedLists) → slice_get olds p ≡ Some x → slice_get news p ≡ Some e → is_satisfied (watch_by x) ≡ true → is_satisfied (watch_by e) ≡ true
    stays p x e at_x at_e =
        changed_at_each (λ n y. slice_get olds n ≡ Some x → is_satisfied (watch_by x) ≡ true → is_satisfied (watch_by y) ≡ true) f.depends q (met_at k)
        (λ y at_y at_old was.
        let still : is_satisfied (watch_by y) ≡ true = kept.stays_satisfied q x y at_old at_y was in
        absurd (false≢true (sym not_satisfied ∙ (ap (λ (z : ListedLists). is_satisfied (watch_by z)) (same_Some d y (sym at ∙ at_y)) ∙ still))))
        (λ n y apart at_y at_old was. kept.stays_satisfied n x y at_old at_y was) p e at_e at_x

    pub met_kept : KeepsFlow olds (met_flow q k d g f)
    met_kept =
        record {
          structure = map-changed_at_kept still_of (met_at k) (λ x. refl) f.depends q ∙ kept.structure;
          listed = listed_each;
          sums = met_sums;
          fewer = λ s. omega (arith, fell s, kept.fewer s);
          stays_satisfied = stays;
          slots = opened_slots;
          slots_room = omega (arith, freed_room (waiting_in f) g.waiters, kept.slots_room);
          satisfied = opened_depends;
          satisfied_room = room_by (eqb d.unmet 1) refl;
        }
