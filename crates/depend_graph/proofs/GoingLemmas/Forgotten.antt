-- One depend is forgotten.
use Rattle.std.proofs.Common.{◌≡◌, ◌≤◌, ℕ, zero, suc, ◌+◌, ◌-◌, Bool, true, false, not, cond, eqb, List, [], ◌∷◌, length, Some, refl, sym, ap, ◌∙◌, ◌⊎◌, inl, inr, arith}
use Rattle.std.specs.Prelude.{◌&&◌}
use Rattle.std.specs.List.{slice_get, slice_set, sum_by, filter}
use Rattle.std.proofs.lemmas.Bool.{cases_Bool, eqb-true, false≢true}
use Rattle.std.proofs.lemmas.List.Elements.{All-nil}
use Rattle.std.proofs.lemmas.Option.{none-some, same_Some}
use Rattle.farm_types.specs.declared.limits.TheConstants.{MOST_GROUPS}
use Rattle.farm_types.specs.Farm.{changed_at}
use Rattle.farm_types.proofs.Changed.{changed_at_each, changed_at_is, length-changed_at}
use Rattle.farm_types.proofs.Lists.{and_both}
use Rattle.depend_edges.specs.Groups.{IsGroup}
use Rattle.depend_edges.specs.Listed.{IsListed, ListedLists, emptied, has_number, is_there}
use Rattle.depend_edges.proofs.Counts.{count_by-changed, one_if}
use Rattle.depend_edges.proofs.Targets.{group_at}
use Rattle.depend_graph.specs.Added.{released_in}
use Rattle.depend_graph.specs.Graph.{Watch, groups_left, is_not_named, is_satisfied, unmet_in}
use Rattle.depend_graph.specs.Inside.{KeepsDepends, KeepsSums, there_of, watches}
use Rattle.depend_graph.specs.Watches.{KeepsCounts, watch_by, watched_with}
use Rattle.depend_graph.proofs.GoingLemmas.Released.{released_in_long, released_in_total}
use Rattle.depend_graph.proofs.ProgressLemmas.Watches.{length-watched, satisfied_by, watches_change, weight_of}

-- ---- the depends that are left

-- where none has the number, none is left out
pub none_named : (n : ℕ) (ds : List ListedLists) → ((q : ℕ) (e : ListedLists) → slice_get ds q ≡ Some e → has_number n e ≡ true → ⊥) → filter (is_not_named n) (watches (there_of ds)) ≡ watches (there_of ds)
none_named n [] none = refl
none_named n (d ∷ ds) none = by_mark (is_there d) refl (none_named n ds (λ q e at. none (suc q) e at)) (cases_Bool (eqb d.depend n)) where
  by_mark : (m : Bool) → is_there d ≡ m → filter (is_not_named n) (watches (there_of ds)) ≡ watches (there_of ds) → (eqb d.depend n ≡ true) ⊎ (eqb d.depend n ≡ false)
      → filter (is_not_named n) (watches (cond m (d ∷ there_of ds) (there_of ds))) ≡ watches (cond m (d ∷ there_of ds) (there_of ds))
  by_mark false is more named = more
  by_mark true is more (inl named) = absurd (none 0 d refl (λ i. is i && named i))
  by_mark true is more (inr other) =
      ap (λ b. cond (not b) (watch_by d ∷ filter (is_not_named n) (watches (there_of ds))) (filter (is_not_named n) (watches (there_of ds)))) other ∙ ap (λ (ws : List Watch). watch_by d ∷ ws) more

set_named : (n : ℕ) (ds : List ListedLists) (p : ℕ) (d : ListedLists) → slice_get ds p ≡ Some d → has_number n d ≡ true → ((q : ℕ) (e : ListedLists) → slice_get ds q ≡ Some e → has_number n e ≡ true → q ≡ p)
    → watches (there_of (slice_set ds p (emptied d))) ≡ filter (is_not_named n) (watches (there_of ds))
set_named n [] p d at named one = absurd (none-some d at)
set_named n (x ∷ xs) zero d at named one =
    let both = and_both (is_there d) (eqb d.depend n) named in
    let same : x ≡ d = same_Some x d at in
    let rest : List Watch = watches (there_of xs) in
    let there : is_there x ≡ true = ap is_there same ∙ both.0 in
    let is : eqb x.depend n ≡ true = ap (λ (l : ListedLists). eqb l.depend n) same ∙ both.1 in
    sym
    (ap (λ m. filter (is_not_named n) (watches (cond m (x ∷ there_of xs) (there_of xs)))) there
    ∙ (ap (λ b. cond (not b) (watch_by x ∷ filter (is_not_named n) rest) (filter (is_not_named n) rest)) is
    ∙ none_named n xs (λ q e at_e named_e. absurd (omega (arith, one (suc q) e at_e named_e)))))
set_named n (x ∷ xs) (suc p) d at named one =
    by_mark (is_there x) refl (set_named n xs p d at named (λ q e at_e named_e. omega (arith, one (suc q) e at_e named_e))) (cases_Bool (eqb x.depend n))
  where
    rest : List ListedLists
    rest = slice_set xs p (emptied d)

    by_mark : (m : Bool) → is_there x ≡ m → watches (there_of (slice_set xs p (emptied d))) ≡ filter (is_not_named n) (watches (there_of xs)) → (eqb x.depend n ≡ true) ⊎ (eqb x.depend n ≡ false)
        → watches (cond m (x ∷ there_of (slice_set xs p (emptied d))) (there_of (slice_set xs p (emptied d)))) ≡ filter (is_not_named n) (watches (cond m (x ∷ there_of xs) (there_of xs)))
    by_mark false is more w = more
    by_mark true is more (inl same) = absurd (omega (arith, one 0 x refl (λ i. is i && same i)))
    by_mark true is more (inr other) =
        ap (λ (ws : List Watch). watch_by x ∷ ws) more
        ∙ sym (ap (λ b. cond (not b) (watch_by x ∷ filter (is_not_named n) (watches (there_of xs))) (filter (is_not_named n) (watches (there_of xs)))) other)

module _ (ds : List ListedLists) (depends : KeepsDepends ds) (p : ℕ) (d : ListedLists) (at : slice_get ds p ≡ Some d) where
  abbrev news : List ListedLists
  news = changed_at ds p emptied

  pub forgotten_watches : (n : ℕ) → has_number n d ≡ true → watches (there_of news) ≡ filter (is_not_named n) (watches (there_of ds))
  forgotten_watches n named =
      ap (λ (ls : List ListedLists). watches (there_of ls)) (changed_at_is ds p emptied d at) ∙ set_named n ds p d at named one
    where
      one : (q : ℕ) (e : ListedLists) → slice_get ds q ≡ Some e → has_number n e ≡ true → q ≡ p
      one q e at_e named_e =
          let mine = and_both (is_there d) (eqb d.depend n) named in
          let its = and_both (is_there e) (eqb e.depend n) named_e in
          depends.numbers_differ q p e d at_e at its.0 mine.0 (eqb-true e.depend n its.1 ∙ sym (eqb-true d.depend n mine.1))

  nothing_listed : (l : ListedLists) → IsListed (emptied l)
  nothing_listed l =
      record { counted = refl; aims = refl; edges_within = omega arith; groups_within = omega arith; each = All-nil IsGroup; unmet_kept = refl }

  pub forgotten_depends : KeepsDepends news
  forgotten_depends =
      record {
        listed = changed_at_each (λ q e. IsListed e) ds p emptied (λ x at_x. nothing_listed x) (λ q e apart at_e. depends.listed q e at_e);
        gone_empty = changed_at_each (λ q e. e.gone ≡ true → e.groups ≡ []) ds p emptied (λ x at_x gone. refl) (λ q e apart at_e. depends.gone_empty q e at_e);
        numbers_differ = λ q r x y at_x at_y.
            changed_at_each (λ j e. slice_get news r ≡ Some y → is_there e ≡ true → is_there y ≡ true → e.depend ≡ y.depend → j ≡ r) ds p emptied (λ e at_e at_r gone. absurd (false≢true gone))
            (λ j e apart at_e at_r. changed_at_each (λ k f. is_there e ≡ true → is_there f ≡ true → e.depend ≡ f.depend → j ≡ k) ds p emptied (λ f at_f there gone. absurd (false≢true gone))
            (λ k f other at_f. depends.numbers_differ j k e f at_e at_f) r y at_r) q x at_x at_y;
        count_within = omega (arith, count_by-changed is_there ds p emptied d at, one_less, depends.count_within);
        places_within = omega (arith, length-changed_at ds p emptied, depends.places_within);
      }
    where
      one_less : one_if (is_there (emptied d)) ≡ 0
      one_less = refl

  pub forgotten_counts : (done : List Bool) → ((q : ℕ) (e : ListedLists) → slice_get ds q ≡ Some e → KeepsCounts done e) → (q : ℕ) (e : ListedLists) → slice_get news q ≡ Some e → KeepsCounts done e
  forgotten_counts done counts =
      changed_at_each (λ q e. KeepsCounts done e) ds p emptied (λ x at_x. record { undone_kept = λ k c at_c. absurd (none-some c at_c); met_kept = λ k g c at_g at_c enough. absurd (none-some c at_c) })
      (λ q e apart at_e. counts q e at_e)

  -- ---- what is kept by slot

  -- a sum over all depends is less by that one's part
  less : (weight : Watch → ℕ) → weight (watch_by (emptied d)) ≡ 0 → sum_by weight (watches news) + weight (watch_by d) ≡ sum_by weight (watches ds)
  less weight none =
      omega (arith, watches_change weight ds p emptied d at, none)

  own : IsListed d
  own = depends.listed p d at

  pub forgotten_sums : (unmet : List ℕ) (left : ℕ) → KeepsSums unmet left ds → KeepsSums (released_in unmet d.groups d.counts) (cond (eqb d.unmet 0) left (left - length d.groups)) news
  forgotten_sums unmet left sums =
      record {
        unmet_kept = λ s.
            omega (arith, released_in_total unmet d.groups d.counts s (group_at d.groups own.each) (λ t. omega (arith, less (unmet_in t) refl, sums.unmet_kept t)), less (unmet_in s) refl, sums.unmet_kept s);
        unmet_counted = released_in_long unmet d.groups d.counts ∙ sums.unmet_counted;
        left_kept = by_test (eqb d.unmet 0) (satisfied_by d own.counted own.unmet_kept);
        left_within = fewer (eqb d.unmet 0);
      }
    where
      fewer : (b : Bool) → cond b left (left - length d.groups) ≤ MOST_GROUPS
      fewer true = sums.left_within
      fewer false = omega (arith, sums.left_within)

      weight_is : (b : Bool) → is_satisfied (watch_by d) ≡ b → weight_of (watch_by d) ≡ cond b 0 (length d.groups)
      weight_is b is = ap (λ c. cond c 0 (length (watched_with d.groups d.counts))) is ∙ ap (cond b 0) (length-watched d.groups d.counts own.counted)

      by_test : (b : Bool) → is_satisfied (watch_by d) ≡ b → cond b left (left - length d.groups) ≡ groups_left (watches news)
      by_test true is = omega (arith, weight_is true is, less weight_of refl, sums.left_kept)
      by_test false is = omega (arith, weight_is false is, less weight_of refl, sums.left_kept)
