-- The farm without some of its depends and their marks: of the others what is met and marked stays.
use Rattle.std.proofs.Common.{◌≡◌, ◌≤◌, ℕ, suc, zero, Bool, true, false, cond, ◌&&◌, ◌||◌, not, eqb, List, [], ◌∷◌, ◌++◌, map, length, Some, refl, sym, ap, subst, ◌∙◌, arith, option_map}
use Rattle.std.specs.List.{filter, list_all, list_any, slice_get, sum_by}
use Rattle.std.proofs.lemmas.Bool.{eq-eqb, eqb-true, false≢true, false_from_ne_true, ne_eqb, or_left, or_right}
use Rattle.std.proofs.lemmas.List.Elements.{filter-append}
use Rattle.std.proofs.lemmas.List.Sums.{sum_by-cons}
use Rattle.std.proofs.lemmas.Option.{none-some, same_Some, slice_get-map}
use Rattle.farm_types.specs.declared.depend.DependRow.{DependRow}
use Rattle.farm_types.specs.declared.depend.Group.{Group}
use Rattle.farm_types.specs.declared.depend.MetRow.{MetRow}
use Rattle.farm_types.specs.Depends.{are_done, groups_left, groups_of, is_done, is_met, is_open, waits_in}
use Rattle.farm_types.specs.Farm.{Farm}
use Rattle.farm_types.specs.Finish.{marks_of}
use Rattle.farm_types.specs.Rising.{IsRising, depend_key}
use Rattle.farm_types.specs.Settle.{is_met_now, met_row, met_rows, met_rows_of, settled_row, with_met}
use Rattle.farm_types.proofs.Lists.{and_both}
use Rattle.farm_law.proofs.Filtered.{at_kept, kept_at}
use Rattle.depend_law.proofs.Among.{rising_once}
use Rattle.depend_law.proofs.Marks.{marks}
use Rattle.depend_law.proofs.NewJob.{none_any}
use Rattle.depend_law.proofs.Stable.{filter-same, is_open_in, list_all-same, map-same}

-- ---- lists

module _ {X : Type 0} where
  pub any_at : (test : X → Bool) (xs : List X) (n : ℕ) (x : X) → slice_get xs n ≡ Some x → test x ≡ true → list_any test xs ≡ true
  any_at test [] n x at passes = absurd (none-some x at)
  any_at test (y ∷ ys) zero x at passes = or_left (test y) (list_any test ys) (ap test (same_Some y x at) ∙ passes)
  any_at test (y ∷ ys) (suc n) x at passes = or_right (test y) (list_any test ys) (any_at test ys n x at passes)

  any_step : (test keep : X → Bool) (y : X) (ys kept : List X) (b : Bool) → keep y ≡ b → (test y ≡ true → keep y ≡ true) → list_any test kept ≡ list_any test ys → list_any test (cond b (y ∷ kept) kept) ≡ list_any test (y ∷ ys)
  any_step test keep y ys kept true is less same = ap (λ (b : Bool). test y || b) same
  any_step test keep y ys kept false is less same =
      same ∙ sym (ap (λ (b : Bool). b || list_any test ys) (false_from_ne_true (test y) (λ h. false≢true (sym is ∙ less h))))

  -- where all stay that pass
  pub any_kept : (test keep : X → Bool) → ((x : X) → test x ≡ true → keep x ≡ true) → (xs : List X) → list_any test (filter keep xs) ≡ list_any test xs
  any_kept test keep less [] = refl
  any_kept test keep less (y ∷ ys) = any_step test keep y ys (filter keep ys) (keep y) refl (less y) (any_kept test keep less ys)

  all_step : (test keep : X → Bool) (y : X) (ys kept : List X) (b : Bool) → keep y ≡ b → (keep y ≡ false → test y ≡ true) → list_all test kept ≡ list_all test ys → list_all test (cond b (y ∷ kept) kept) ≡ list_all test (y ∷ ys)
  all_step test keep y ys kept true is passes same = ap (λ (b : Bool). test y && b) same
  all_step test keep y ys kept false is passes same = same ∙ sym (ap (λ (b : Bool). b && list_all test ys) (passes is))

  -- where each that goes passes
  pub all_kept : (test keep : X → Bool) (xs : List X) → ((n : ℕ) (x : X) → slice_get xs n ≡ Some x → keep x ≡ false → test x ≡ true) → list_all test (filter keep xs) ≡ list_all test xs
  all_kept test keep [] passes = refl
  all_kept test keep (y ∷ ys) passes = all_step test keep y ys (filter keep ys) (keep y) refl (passes 0 y refl) (all_kept test keep ys (λ n x at. passes (suc n) x at))

  sum_step : (weight : X → ℕ) (y : X) (ys kept : List X) (b : Bool) → sum_by weight kept ≤ sum_by weight ys → sum_by weight (cond b (y ∷ kept) kept) ≤ sum_by weight (y ∷ ys)
  sum_step weight y ys kept true less = omega (arith, sum_by-cons weight y kept, sum_by-cons weight y ys, less)
  sum_step weight y ys kept false less = omega (arith, sum_by-cons weight y ys, less)

  pub sum_kept : (weight : X → ℕ) (keep : X → Bool) (xs : List X) → sum_by weight (filter keep xs) ≤ sum_by weight xs
  sum_kept weight keep [] = omega arith
  sum_kept weight keep (y ∷ ys) = sum_step weight y ys (filter keep ys) (keep y) (sum_kept weight keep ys)

-- ---- the rows of marks

module _ (f : Farm) (P : ℕ → Bool) where
  own_rows : (d : DependRow) (gs : List Group) (b : Bool) → P d.depend ≡ b → filter (λ (m : MetRow). P m.depend) (map (met_row d) gs) ≡ cond b (map (met_row d) gs) []
  own_rows d [] true is = refl
  own_rows d [] false is = refl
  own_rows d (g ∷ gs) true is =
      ap (λ (b : Bool). cond b (met_row d g ∷ filter (λ (m : MetRow). P m.depend) (map (met_row d) gs)) (filter (λ (m : MetRow). P m.depend) (map (met_row d) gs))) is
      ∙ ap (λ (rows : List MetRow). met_row d g ∷ rows) (own_rows d gs true is)
  own_rows d (g ∷ gs) false is =
      ap (λ (b : Bool). cond b (met_row d g ∷ filter (λ (m : MetRow). P m.depend) (map (met_row d) gs)) (filter (λ (m : MetRow). P m.depend) (map (met_row d) gs))) is
      ∙ own_rows d gs false is

  rows_step : (d : DependRow) (gs : List Group) (all b : Bool) → P d.depend ≡ b → filter (λ (m : MetRow). P m.depend) (cond all [] (map (met_row d) gs)) ≡ cond b (cond all [] (map (met_row d) gs)) []
  rows_step d gs true true is = refl
  rows_step d gs true false is = refl
  rows_step d gs false b is = own_rows d gs b is

  marks_step : (keep : Bool) (d : DependRow) (ds kept : List DependRow) → P d.depend ≡ keep → filter (λ (m : MetRow). P m.depend) (met_rows f ds) ≡ met_rows f kept
      → filter (λ (m : MetRow). P m.depend) (met_rows f (d ∷ ds)) ≡ met_rows f (cond keep (d ∷ kept) kept)
  marks_step keep d ds kept is later =
      filter-append (λ (m : MetRow). P m.depend) (met_rows_of f d) (met_rows f ds)
      ∙ (ap (λ (rows : List MetRow). rows ++ filter (λ (m : MetRow). P m.depend) (met_rows f ds)) (rows_step d (filter (is_met_now f d) (groups_of f d)) (settled_row f d).met_all keep is)
      ∙ (ap (λ (rows : List MetRow). cond keep (met_rows_of f d) [] ++ rows) later ∙ joined keep))
    where
      joined : (b : Bool) → cond b (met_rows_of f d) [] ++ met_rows f kept ≡ met_rows f (cond b (d ∷ kept) kept)
      joined true = refl
      joined false = refl

  -- the marks of those that stay are theirs alone
  pub marks_kept : (keep : DependRow → Bool) (ds : List DependRow) → ((n : ℕ) (d : DependRow) → slice_get ds n ≡ Some d → P d.depend ≡ keep d) → filter (λ (m : MetRow). P m.depend) (met_rows f ds) ≡ met_rows f (filter keep ds)
  marks_kept keep [] same = refl
  marks_kept keep (d ∷ ds) same = marks_step (keep d) d ds (filter keep ds) (same 0 d refl) (marks_kept keep ds (λ n e at. same (suc n) e at))

-- ---- a farm that is settled, without some depends

module _ (f : Farm) (keep : DependRow → Bool) where
  abbrev pub left : List DependRow
  left = filter keep f.depends

  abbrev pub without : Farm
  without = record f { depends = left; met = marks_of left f.met }

  pub groups_without : groups_of without ≡ groups_of f
  unfolding groups_of
  groups_without = refl

  abbrev is_of : ℕ → Bool
  is_of depend = list_any (λ (d : DependRow). eqb d.depend depend) left

  -- a depend that stays has its marks
  pub met_without : (n : ℕ) (d : DependRow) → slice_get left n ≡ Some d → (g : Group) → is_met without d g ≡ is_met f d g
  met_without n d at g =
      ap (λ (b : Bool). d.met_all || b)
      (any_kept (marks d g) (λ (m : MetRow). list_any (λ (e : DependRow). eqb e.depend m.depend) left)
      (λ m h.
      any_at (λ (e : DependRow). eqb e.depend m.depend) left n d at
      (eq-eqb d.depend m.depend (sym (eqb-true m.depend d.depend (and_both (eqb m.depend d.depend) (eqb m.position g.position) h).0))))
      f.met)

  now_without : (n : ℕ) (d : DependRow) → slice_get left n ≡ Some d → (g : Group) → is_met_now without d g ≡ is_met_now f d g
  now_without n d at g = ap (λ (b : Bool). b || are_done (is_done f.slots) g) (met_without n d at g)

  row_without : (n : ℕ) (d : DependRow) → slice_get left n ≡ Some d → settled_row without d ≡ settled_row f d
  row_without n d at =
      ap (λ (groups : DependRow → List Group). record d { met_all = d.met_all || list_all (is_met_now without d) (groups d) }) groups_without
      ∙ ap (λ (b : Bool). record d { met_all = d.met_all || b }) (list_all-same (is_met_now without d) (is_met_now f d) (groups_of f d) (λ k g there. now_without n d at g))

  rows_without : (n : ℕ) (d : DependRow) → slice_get left n ≡ Some d → met_rows_of without d ≡ met_rows_of f d
  rows_without n d at =
      ap (λ (e : DependRow). cond e.met_all [] (map (met_row d) (filter (is_met_now without d) (groups_of without d)))) (row_without n d at)
      ∙ (ap (λ (groups : DependRow → List Group). cond (settled_row f d).met_all [] (map (met_row d) (filter (is_met_now without d) (groups d)))) groups_without
      ∙ ap (λ (gs : List Group). cond (settled_row f d).met_all [] (map (met_row d) gs)) (filter-same (is_met_now without d) (is_met_now f d) (groups_of f d) (λ k g there. now_without n d at g)))

  all_rows : (ds : List DependRow) → ((n : ℕ) (d : DependRow) → slice_get ds n ≡ Some d → met_rows_of without d ≡ met_rows_of f d) → met_rows without ds ≡ met_rows f ds
  all_rows [] same = refl
  all_rows (d ∷ ds) same =
      ap (λ (rows : List MetRow). rows ++ met_rows without ds) (same 0 d refl) ∙ ap (λ (rows : List MetRow). met_rows_of f d ++ rows) (all_rows ds (λ n e at. same (suc n) e at))

  -- fewer groups are left
  pub left_without : groups_left without ≤ groups_left f
  left_without =
      subst (λ (groups : DependRow → List Group). sum_by (λ (d : DependRow). cond d.met_all 0 (length (groups d))) left ≤ groups_left f) (sym groups_without)
      (sum_kept (λ (d : DependRow). cond d.met_all 0 (length (groups_of f d))) keep f.depends)

  open_in_without : (slot n : ℕ) (d : DependRow) → slice_get left n ≡ Some d → is_open_in without slot d ≡ is_open_in f slot d
  open_in_without slot n d at =
      ap (λ (groups : DependRow → List Group). list_all (λ g. is_met without d g || not (waits_in slot g)) (groups d)) groups_without
      ∙ list_all-same (λ g. is_met without d g || not (waits_in slot g)) (λ g. is_met f d g || not (waits_in slot g)) (groups_of f d) (λ k g there. ap (λ (b : Bool). b || not (waits_in slot g)) (met_without n d at g))

  -- the same slots are open, where in none that goes a frame waits
  pub open_without : (slot : ℕ) → ((n : ℕ) (d : DependRow) → slice_get f.depends n ≡ Some d → keep d ≡ false → is_open_in f slot d ≡ true) → is_open without slot ≡ is_open f slot
  open_without slot passes =
      list_all-same (is_open_in without slot) (is_open_in f slot) left (λ n d at. open_in_without slot n d at) ∙ all_kept (is_open_in f slot) keep f.depends passes

  module _ (high : ℕ) (rise : IsRising depend_key 1 f.depends high) where
    numbered : (n : ℕ) (d : DependRow) → slice_get f.depends n ≡ Some d → (b : Bool) → keep d ≡ b → is_of d.depend ≡ b
    numbered n d at true is =
        let place = kept_at keep f.depends n d at is in
        any_at (λ (e : DependRow). eqb e.depend d.depend) left place.0 d place.1 (eq-eqb d.depend d.depend refl)
    numbered n d at false is =
        none_any (λ (e : DependRow). eqb e.depend d.depend) left
        (λ m e here.
        let was = at_kept keep f.depends m e here in
        ne_eqb e.depend d.depend
        (λ same.
        let place = rising_once depend_key 1 f.depends high was.0 n e d rise was.1 at same in
        let one : e ≡ d = same_Some e d (sym was.1 ∙ (ap (slice_get f.depends) place ∙ at)) in
        false≢true (sym is ∙ (sym (ap keep one) ∙ was.2))))

    -- exactly what is met is marked still
    pub met_stays : with_met f ≡ f → with_met without ≡ without
    met_stays settled =
        let depends : map (settled_row without) left ≡ left =
        map-same (settled_row without) (λ d. d) left (λ n d at. row_without n d at ∙ settled_one (at_kept keep f.depends n d at).0 d (at_kept keep f.depends n d at).1) ∙ map_self left in
        let met : met_rows without left ≡ marks_of left f.met =
        all_rows left rows_without
        ∙ (sym (marks_kept f is_of keep f.depends (λ n d at. numbered n d at (keep d) refl)) ∙ ap (marks_of left) (ap (λ (g : Farm). g.met) settled)) in
        λ i. record f { depends = depends i; met = met i }
      where
        settled_one : (n : ℕ) (d : DependRow) → slice_get f.depends n ≡ Some d → settled_row f d ≡ d
        settled_one n d at =
            same_Some (settled_row f d) d
            (sym (slice_get-map (settled_row f) f.depends n ∙ ap (option_map (settled_row f)) at) ∙ (ap (λ (g : Farm). slice_get g.depends n) settled ∙ at))

        map_self : (xs : List DependRow) → map (λ (d : DependRow). d) xs ≡ xs
        map_self [] = refl
        map_self (x ∷ xs) = ap (λ (ys : List DependRow). x ∷ ys) (map_self xs)
