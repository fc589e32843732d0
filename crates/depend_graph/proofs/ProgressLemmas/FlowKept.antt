-- What is kept while groups are met: at the start, and when a count changes but for its mark.
use Rattle.std.proofs.Common.{◌≡◌, ◌≤◌, ℕ, ◌+◌, Bool, true, false, not, cond, eqb, ltb, List, [], ◌∷◌, length, Option, Some, None, refl, sym, ap, subst, ◌∙◌, ◌⊎◌, inl, inr, arith}
use Rattle.std.specs.Prelude.{◌&&◌}
use Rattle.std.specs.List.{slice_get, count_by}
use Rattle.std.proofs.lemmas.Bool.{cases_Bool, eqb-true, le-ltb}
use Rattle.std.proofs.lemmas.List.Sums.{count_by-le-length}
use Rattle.std.proofs.lemmas.Option.{same_Some}
use Rattle.farm_types.specs.declared.limits.TheConstants.{MOST_DEPENDS}
use Rattle.farm_types.specs.Farm.{changed_at, changed_by}
use Rattle.farm_types.proofs.Changed.{changed_at_each, length-changed_at}
use Rattle.farm_types.proofs.ChangedLists.{map-changed_at_kept}
use Rattle.depend_edges.specs.Listed.{IsListed, ListedLists, is_unmet}
use Rattle.depend_edges.specs.declared.listed.Count.{Count}
use Rattle.depend_edges.proofs.Counts.{count_by-changed, one_if}
use Rattle.depend_graph.specs.Flow.{Flow, flow_of, is_positive}
use Rattle.depend_graph.specs.Graph.{Watch, groups_left, has_opened, is_satisfied, nothing_opened, unmet_of, was_satisfied}
use Rattle.depend_graph.specs.Inside.{KeepsSums, watches}
use Rattle.depend_graph.specs.Kept.{KeepsFlow, is_left, still_of}
use Rattle.depend_graph.specs.Watches.{watch_by}
use Rattle.depend_graph.proofs.ProgressLemmas.Watches.{watched_same}

-- ---- a change of a count but for its mark

abbrev pub recount : (Count → Count) → ℕ → ListedLists → ListedLists
recount change k d = record d { counts = changed_at d.counts k change }

count_same : {X : Type 0} (test : X → Bool) (xs : List X) (k : ℕ) (change : X → X) (o : Option X) → slice_get xs k ≡ o → ((x : X) → test (change x) ≡ test x) → count_by test (changed_at xs k change) ≡ count_by test xs
count_same test xs k change None at same = ap (λ w. count_by test (changed_by xs k change w)) at
count_same test xs k change (Some x) at same = omega (arith, count_by-changed test xs k change x at, ap one_if (same x))

pub count_by-kept : {X : Type 0} (test : X → Bool) (xs : List X) (k : ℕ) (change : X → X) → ((x : X) → test (change x) ≡ test x) → count_by test (changed_at xs k change) ≡ count_by test xs
count_by-kept test xs k change same = count_same test xs k change (slice_get xs k) refl same

module _ (change : Count → Count) (marks : (c : Count) → (change c).met ≡ c.met) where
  watch_same : (k : ℕ) (d : ListedLists) → watch_by (recount change k d) ≡ watch_by d
  watch_same k d = λ i. record { depend = d.depend; groups = watched_same d.groups d.counts k change marks i }

  pub watches_same : (ds : List ListedLists) (q k : ℕ) → watches (changed_at ds q (recount change k)) ≡ watches ds
  watches_same ds q k = map-changed_at_kept watch_by (recount change k) (watch_same k) ds q

  pub recount_listed : (k : ℕ) (d : ListedLists) → IsListed d → IsListed (recount change k d)
  recount_listed k d one =
      record {
        counted = length-changed_at d.counts k change ∙ one.counted;
        aims = one.aims;
        edges_within = one.edges_within;
        groups_within = one.groups_within;
        each = one.each;
        unmet_kept = one.unmet_kept ∙ sym (count_by-kept is_unmet d.counts k change (λ c. ap not (marks c)));
      }

  pub recount_each : (ds : List ListedLists) (q k : ℕ) → ((p : ℕ) (d : ListedLists) → slice_get ds p ≡ Some d → IsListed d) → (p : ℕ) (e : ListedLists) → slice_get (changed_at ds q (recount change k)) p ≡ Some e → IsListed e
  recount_each ds q k listed = changed_at_each (λ p e. IsListed e) ds q (recount change k) (λ x at_x. recount_listed k x (listed q x at_x)) (λ p x apart at_x. listed p x at_x)

  pub recount_sums : (unmet : List ℕ) (left : ℕ) (ds : List ListedLists) (q k : ℕ) → KeepsSums unmet left ds → KeepsSums unmet left (changed_at ds q (recount change k))
  recount_sums unmet left ds q k sums =
      let same = watches_same ds q k in
      record {
        unmet_kept = λ s. sums.unmet_kept s ∙ ap (λ (ws : List Watch). unmet_of ws s) (sym same);
        unmet_counted = sums.unmet_counted;
        left_kept = sums.left_kept ∙ ap groups_left (sym same);
        left_within = sums.left_within;
      }

  pub recount_kept : (olds : List ListedLists) (f : Flow) (q k : ℕ) → KeepsFlow olds f → KeepsFlow olds (record f { depends = changed_at f.depends q (recount change k) })
  recount_kept olds f q k kept =
      let same = watches_same f.depends q k in
      record {
        structure = map-changed_at_kept still_of (recount change k) (λ x. refl) f.depends q ∙ kept.structure;
        listed = recount_each f.depends q k kept.listed;
        sums = recount_sums f.unmet f.left f.depends q k kept.sums;
        fewer = λ s. subst (λ (ws : List Watch). unmet_of ws s ≤ unmet_of (watches olds) s) (sym same) (kept.fewer s);
        stays_satisfied = λ p x e at_x at_e was.
            changed_at_each (λ n y. slice_get olds n ≡ Some x → is_satisfied (watch_by y) ≡ true) f.depends q (recount change k)
            (λ y at_y at_old. ap is_satisfied (watch_same k y) ∙ kept.stays_satisfied q x y at_old at_y was)
            (λ n y apart at_y at_old. kept.stays_satisfied n x y at_old at_y was) p e at_e at_x;
        slots = λ s. kept.slots s ∙ ap (λ (ws : List Watch). one_if (has_opened (watches olds) ws s)) (sym same);
        slots_room = kept.slots_room;
        satisfied = λ n. kept.satisfied n ∙ ap (λ (ws : List Watch). was_satisfied (watches olds) ws n) (sym same);
        satisfied_room = subst (λ (n : ℕ). length f.opened.satisfied + n ≤ MOST_DEPENDS) (sym (count_by-kept is_left f.depends q (recount change k) (λ x. refl))) kept.satisfied_room;
      }

-- ---- the start

and_false : (b : Bool) → (b && false) ≡ false
and_false true = refl
and_false false = refl

pub never_opened : (ws : List Watch) (s : ℕ) → has_opened ws ws s ≡ false
never_opened ws s = by_count (unmet_of ws s) (cases_Bool (eqb (unmet_of ws s) 0)) where
  by_count : (n : ℕ) → (eqb n 0 ≡ true) ⊎ (eqb n 0 ≡ false) → (ltb 0 n && eqb n 0) ≡ false
  by_count n (inl none) = ap (λ b. b && eqb n 0) (le-ltb 0 n (omega (arith, eqb-true n 0 none)))
  by_count n (inr some) = ap (λ b. ltb 0 n && b) some ∙ and_false (ltb 0 n)

pub never_became : (a b : Bool) → (a && (not b && b)) ≡ false
never_became true true = refl
never_became true false = refl
never_became false b = refl

pub never_satisfied : (ws : List Watch) (n : ℕ) → was_satisfied ws ws n ≡ false
never_satisfied [] n = refl
never_satisfied (w ∷ ws) n = ap (λ b. cond b true (was_satisfied ws ws n)) (never_became (eqb w.depend n) (is_satisfied w)) ∙ never_satisfied ws n

pub start_kept : (olds : List ListedLists) (unmet : List ℕ) (left : ℕ) → ((p : ℕ) (d : ListedLists) → slice_get olds p ≡ Some d → IsListed d) → count_by is_left olds ≤ MOST_DEPENDS → KeepsSums unmet left olds
    → KeepsFlow olds (flow_of olds unmet left nothing_opened)
start_kept olds unmet left listed within sums =
    record {
      structure = refl;
      listed = listed;
      sums = sums;
      fewer = λ s. omega arith;
      stays_satisfied = λ p d e at_d at_e was. ap (λ (x : ListedLists). is_satisfied (watch_by x)) (same_Some e d (sym at_e ∙ at_d)) ∙ was;
      slots = λ s. ap one_if (sym (never_opened (watches olds) s));
      slots_room = omega (arith, count_by-le-length is_positive unmet, sums.unmet_counted);
      satisfied = λ n. sym (never_satisfied (watches olds) n);
      satisfied_room = omega (arith, within);
    }
