-- The places of forgotten depends are closed up.
use Rattle.std.proofs.Common.{◌≡◌, ℕ, zero, suc, Bool, true, false, cond, List, [], ◌∷◌, length, Some, refl, sym, ap, ◌∙◌, arith}
use Rattle.std.specs.List.{slice_get, count_by, filter}
use Rattle.std.proofs.lemmas.List.Sums.{length-filter}
use Rattle.std.proofs.lemmas.Option.{none-some, same_Some}
use Rattle.depend_edges.specs.Listed.{ListedLists, is_there}
use Rattle.depend_graph.specs.Inside.{KeepsDepends, KeepsSums, there_of}
use Rattle.depend_graph.specs.Watches.{KeepsCounts}
use Rattle.depend_graph.proofs.GoingLemmas.Thinned.{there_left, there_unmet}

-- what stands in the list of those that pass stood in the list
pub filter_from : {X : Type 0} (test : X → Bool) (xs : List X) (p : ℕ) (x : X) → slice_get (filter test xs) p ≡ Some x → (q : ℕ) × (slice_get xs q ≡ Some x) × (test x ≡ true)
filter_from test [] p x at = absurd (none-some x at)
filter_from {X} test (y ∷ ys) p x at = by_test (test y) refl p at (λ n is. filter_from test ys n x is) where
  by_test : (b : Bool) → test y ≡ b → (n : ℕ) → slice_get (cond b (y ∷ filter test ys) (filter test ys)) n ≡ Some x → ((m : ℕ) → slice_get (filter test ys) m ≡ Some x → (q : ℕ) × (slice_get ys q ≡ Some x) × (test x ≡ true))
      → (q : ℕ) × (slice_get (y ∷ ys) q ≡ Some x) × (test x ≡ true)
  by_test true is zero here more = (0, here, ap test (sym (same_Some y x here)) ∙ is)
  by_test true is (suc n) here more = let r = more n here in (suc r.0, r.1, r.2)
  by_test false is n here more = let r = more n here in (suc r.0, r.1, r.2)

abbrev Differ : List ListedLists → Type 0
Differ xs = (p q : ℕ) (x y : ListedLists) → slice_get xs p ≡ Some x → slice_get xs q ≡ Some y → is_there x ≡ true → is_there y ≡ true → x.depend ≡ y.depend → p ≡ q

filter_differ : (xs : List ListedLists) → Differ xs → Differ (there_of xs)
filter_differ [] differ = λ p q x y at_x at_y there_x there_y same. absurd (none-some x at_x)
filter_differ (z ∷ zs) differ = by_test (is_there z) refl (filter_differ zs (λ p q x y at_x at_y there_x there_y same. omega (arith, differ (suc p) (suc q) x y at_x at_y there_x there_y same))) where
  by_test : (b : Bool) → is_there z ≡ b → Differ (there_of zs) → Differ (cond b (z ∷ there_of zs) (there_of zs))
  by_test false is more p q x y at_x at_y there_x there_y same = more p q x y at_x at_y there_x there_y same
  by_test true is more zero zero x y at_x at_y there_x there_y same = refl
  by_test true is more zero (suc q) x y at_x at_y there_x there_y same =
      let r = filter_from is_there zs q y at_y in
      absurd (omega (arith, differ 0 (suc r.0) x y at_x r.1 there_x there_y same))
  by_test true is more (suc p) zero x y at_x at_y there_x there_y same =
      let r = filter_from is_there zs p x at_x in
      absurd (omega (arith, differ (suc r.0) 0 x y r.1 at_y there_x there_y same))
  by_test true is more (suc p) (suc q) x y at_x at_y there_x there_y same = ap suc (more p q x y at_x at_y there_x there_y same)

-- those that pass all pass
filter_again : {X : Type 0} (test : X → Bool) (xs : List X) → filter test (filter test xs) ≡ filter test xs
filter_again test [] = refl
filter_again {X} test (x ∷ xs) = by_test (test x) refl (filter_again test xs) where
  by_test : (b : Bool) → test x ≡ b → filter test (filter test xs) ≡ filter test xs → filter test (cond b (x ∷ filter test xs) (filter test xs)) ≡ cond b (x ∷ filter test xs) (filter test xs)
  by_test true is more = ap (λ b. cond b (x ∷ filter test (filter test xs)) (filter test (filter test xs))) is ∙ ap (λ (ys : List X). x ∷ ys) more
  by_test false is more = more

pub there_again : (ds : List ListedLists) → there_of (there_of ds) ≡ there_of ds
there_again ds = filter_again is_there ds

pub there_counts : (ds : List ListedLists) → length (there_of ds) ≡ count_by is_there ds
there_counts ds = length-filter is_there ds

module _ (ds : List ListedLists) (depends : KeepsDepends ds) where
  pub closed_depends : KeepsDepends (there_of ds)
  closed_depends =
      record {
        listed = λ p d at. let x = filter_from is_there ds p d at in depends.listed x.0 d x.1;
        gone_empty = λ p d at gone. let x = filter_from is_there ds p d at in depends.gone_empty x.0 d x.1 gone;
        numbers_differ = filter_differ ds depends.numbers_differ;
        count_within = omega (arith, ap (λ (xs : List ListedLists). length xs) (there_again ds), there_counts (there_of ds), there_counts ds, depends.count_within);
        places_within = omega (arith, there_counts ds, depends.count_within);
      }

  pub closed_sums : (unmet : List ℕ) (left : ℕ) → KeepsSums unmet left ds → KeepsSums unmet left (there_of ds)
  closed_sums unmet left sums =
      record {
        unmet_kept = λ s. sums.unmet_kept s ∙ there_unmet ds depends s;
        unmet_counted = sums.unmet_counted;
        left_kept = sums.left_kept ∙ there_left ds depends;
        left_within = sums.left_within;
      }

  pub closed_counts : (done : List Bool) → ((p : ℕ) (d : ListedLists) → slice_get ds p ≡ Some d → KeepsCounts done d) → (p : ℕ) (d : ListedLists) → slice_get (there_of ds) p ≡ Some d → KeepsCounts done d
  closed_counts done counts p d at = let x = filter_from is_there ds p d at in counts x.0 d x.1
