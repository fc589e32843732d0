-- Depends that were forgotten, among the others.
use Rattle.std.proofs.Common.{◌≡◌, ◌≤◌, ◌<◌, ℕ, suc, Bool, true, false, not, cond, eqb, List, [], ◌∷◌, map, length, Some, refl, sym, ap, ◌∙◌, ◌⊎◌, inl, inr, arith}
use Rattle.std.specs.List.{slice_get, count_by}
use Rattle.std.proofs.lemmas.Bool.{cases_Bool, eqb-true, ltb-true, false≢true}
use Rattle.std.proofs.lemmas.List.Sums.{count_by-le-length}
use Rattle.farm_types.specs.declared.depend.Group.{Group}
use Rattle.farm_types.specs.declared.limits.TheConstants.{MOST_DEPENDS}
use Rattle.depend_edges.specs.Listed.{ListedLists, is_there, is_unmet}
use Rattle.depend_edges.proofs.Counts.{count_by-cons, one_if}
use Rattle.depend_graph.specs.Graph.{Watch, met_group, met_where}
use Rattle.depend_graph.specs.Inside.{KeepsDepends}
use Rattle.depend_graph.specs.Kept.{is_left}
use Rattle.depend_graph.specs.Watches.{watch_by, watched_with}

pub gone_by : (d : ListedLists) → is_there d ≡ false → d.gone ≡ true
gone_by d not_there = by_mark d.gone not_there where
  by_mark : (b : Bool) → not b ≡ false → b ≡ true
  by_mark true is = refl
  by_mark false is = sym is

pub watch_empty : (d : ListedLists) → d.groups ≡ [] → (watch_by d).groups ≡ []
watch_empty d none = ap (λ (gs : List Group). watched_with gs d.counts) none

module _ (ds : List ListedLists) (depends : KeepsDepends ds) where
  -- where two have one number, they are one, or no group is left of the one
  pub other_empty : (p q : ℕ) (d one : ListedLists) → slice_get ds p ≡ Some d → slice_get ds q ≡ Some one → is_there one ≡ true → d.depend ≡ one.depend → (p ≡ q) ⊎ ((watch_by d).groups ≡ [])
  other_empty p q d one at_d at_one there same = by_mark (cases_Bool (is_there d)) where
    by_mark : (is_there d ≡ true) ⊎ (is_there d ≡ false) → (p ≡ q) ⊎ ((watch_by d).groups ≡ [])
    by_mark (inl too) = inl (depends.numbers_differ p q d one at_d at_one too there same)
    by_mark (inr gone) = inr (watch_empty d (depends.gone_empty p d at_d (gone_by d gone)))

  left_there : (p : ℕ) (d : ListedLists) → slice_get ds p ≡ Some d → is_left d ≡ true → is_there d ≡ true
  left_there p d at left = by_mark (cases_Bool (is_there d)) where
    by_mark : (is_there d ≡ true) ⊎ (is_there d ≡ false) → is_there d ≡ true
    by_mark (inl there) = there
    by_mark (inr gone) =
        let one = depends.listed p d at in
        let none : length d.groups ≡ 0 = ap (λ (gs : List Group). length gs) (depends.gone_empty p d at (gone_by d gone)) in
        let some : 0 < d.unmet = ltb-true 0 d.unmet left in
        absurd (omega (arith, one.counted, one.unmet_kept, count_by-le-length is_unmet d.counts))

fewer_by : {X : Type 0} (f g : X → Bool) (xs : List X) → ((p : ℕ) (x : X) → slice_get xs p ≡ Some x → f x ≡ true → g x ≡ true) → count_by f xs ≤ count_by g xs
fewer_by f g [] each = omega arith
fewer_by f g (x ∷ xs) each =
    omega (arith, count_by-cons f x xs, count_by-cons g x xs, by_test (f x) (g x) (each 0 x refl), fewer_by f g xs (λ p y at. each (suc p) y at))
  where
    by_test : (a b : Bool) → (a ≡ true → b ≡ true) → one_if a ≤ one_if b
    by_test true true less = omega arith
    by_test true false less = absurd (false≢true (less refl))
    by_test false b less = omega arith

pub few_left : (ds : List ListedLists) → KeepsDepends ds → count_by is_left ds ≤ MOST_DEPENDS
few_left ds depends = omega (arith, fewer_by is_left is_there ds (left_there ds depends), depends.count_within)

pub met_stays : (n : ℕ) (w : Watch) → (w.depend ≡ n → w.groups ≡ []) → met_where n w ≡ w
met_stays n w empty = by_test (cases_Bool (eqb w.depend n)) where
  by_test : (eqb w.depend n ≡ true) ⊎ (eqb w.depend n ≡ false) → met_where n w ≡ w
  by_test (inr other) = ap (λ b. cond b (record { depend = w.depend; groups = map met_group w.groups }) w) other
  by_test (inl same) =
      let none : w.groups ≡ [] = empty (eqb-true w.depend n same) in
      let groups : map met_group w.groups ≡ w.groups = ap (map met_group) none ∙ sym none in
      ap (λ b. cond b (record { depend = w.depend; groups = map met_group w.groups }) w) same ∙ λ i. record { depend = w.depend; groups = groups i }
