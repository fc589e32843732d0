-- The farm in which each group is marked that is met now: once more it stays as it is, and what was open is open.
use Rattle.std.proofs.Common.{◌≡◌, ℕ, suc, Bool, true, false, cond, ◌&&◌, ◌||◌, not, List, [], ◌∷◌, ◌++◌, map, Some, refl, ap, sym, subst, ◌∙◌, ◌+◌, length, arith}
use Rattle.std.specs.List.{filter, list_all, slice_get}
use Rattle.std.proofs.lemmas.Bool.{or_parts, or_right}
use Rattle.std.proofs.lemmas.List.Folds.{list_all-map}
use Rattle.farm_types.specs.declared.depend.DependRow.{DependRow}
use Rattle.farm_types.specs.declared.depend.Group.{Group}
use Rattle.farm_types.specs.declared.depend.MetRow.{MetRow}
use Rattle.farm_types.specs.Depends.{are_done, shape_of, groups_of, is_done, is_marked, is_met, is_open, waits_in}
use Rattle.farm_types.specs.Farm.{Farm}
use Rattle.farm_types.specs.Groups.{all_slots, part_at}
use Rattle.farm_types.specs.Rising.{IsRising, depend_key}
use Rattle.farm_types.specs.Settle.{is_met_now, met_row, met_rows, met_rows_of, settled_row, with_met}
use Rattle.farm_types.proofs.Lists.{list_all-at, list_all-from_at}
use Rattle.depend_law.proofs.Marks.{marked_rows}
use Rattle.depend_law.proofs.GroupSlots.{group_key, groups_among}
use Rattle.depend_law.proofs.Stable.{filter-same, list_all-same}

-- the groups of a depend, where its marks or those of others change
pub groups_met : (f : Farm) (d : DependRow) → groups_of (with_met f) (settled_row f d) ≡ groups_of f d
unfolding groups_of
groups_met f d = refl

-- positions rise
pub positions_rise : (f : Farm) (d : DependRow) → (high : ℕ) × IsRising group_key 0 (groups_of f d) high
unfolding groups_of
positions_rise f d =
    let waiters = shape_of f d.waiter.job in
    let high = length (all_slots waiters.layers) + 1 in
    (high, (groups_among high d.any (part_at d.waiter) (part_at d.target) waiters (shape_of f d.target.job) (omega arith) (omega arith) d.kind).rise)

-- ---- tests

met_by : (a m r : Bool) → ((a || (not a && (m || r))) || r) ≡ (a || (m || r))
met_by true m r = refl
met_by false true r = refl
met_by false false true = refl
met_by false false false = refl

marked_by : (a m : Bool) → (a || (not a && m)) ≡ (a || m)
marked_by true m = refl
marked_by false m = refl

module _ (f : Farm) (high : ℕ) (rise : IsRising depend_key 1 f.depends high) where
  marked_is : (n : ℕ) (d : DependRow) → slice_get f.depends n ≡ Some d → (k : ℕ) (g : Group) → slice_get (groups_of f d) k ≡ Some g → is_marked (with_met f) (settled_row f d) g ≡ (not (settled_row f d).met_all && is_met_now f d g)
  marked_is n d at k g there =
      let positions = positions_rise f d in
      marked_rows f 1 f.depends high n d positions.0 k g rise at positions.1 there

  -- a group is met where it was met, or its depend is satisfied
  pub met_is : (n : ℕ) (d : DependRow) → slice_get f.depends n ≡ Some d → (k : ℕ) (g : Group) → slice_get (groups_of f d) k ≡ Some g → is_met (with_met f) (settled_row f d) g ≡ ((settled_row f d).met_all || is_met_now f d g)
  met_is n d at k g there =
      ap (λ (b : Bool). (settled_row f d).met_all || b) (marked_is n d at k g there) ∙ marked_by (settled_row f d).met_all (is_met_now f d g)

  -- and so once more
  met_now_is : (n : ℕ) (d : DependRow) → slice_get f.depends n ≡ Some d → (k : ℕ) (g : Group) → slice_get (groups_of f d) k ≡ Some g → is_met_now (with_met f) (settled_row f d) g ≡ ((settled_row f d).met_all || is_met_now f d g)
  met_now_is n d at k g there =
      ap (λ (b : Bool). (settled_row f d).met_all || b || are_done (is_done f.slots) g) (marked_is n d at k g there)
      ∙ met_by (settled_row f d).met_all (is_met f d g) (are_done (is_done f.slots) g)

  -- ---- once more

  all_again : (b : Bool) (n : ℕ) (d : DependRow) → (settled_row f d).met_all ≡ b → slice_get f.depends n ≡ Some d → (b || list_all (is_met_now (with_met f) (settled_row f d)) (groups_of f d)) ≡ b
  all_again true n d is at = refl
  all_again false n d is at =
      list_all-same (is_met_now (with_met f) (settled_row f d)) (is_met_now f d) (groups_of f d)
      (λ k g there. met_now_is n d at k g there ∙ ap (λ (b : Bool). b || is_met_now f d g) is)
      ∙ (or_parts d.met_all (list_all (is_met_now f d) (groups_of f d)) is).1

  -- a depend is settled
  pub row_again : (n : ℕ) (d : DependRow) → slice_get f.depends n ≡ Some d → settled_row (with_met f) (settled_row f d) ≡ settled_row f d
  row_again n d at =
      ap (λ (b : Bool). record d { met_all = b })
      (ap (λ (gs : List Group). (settled_row f d).met_all || list_all (is_met_now (with_met f) (settled_row f d)) gs) (groups_met f d)
      ∙ all_again (settled_row f d).met_all n d refl at)

  rows_by : (b c : Bool) (n : ℕ) (d : DependRow) → (settled_row f d).met_all ≡ b → c ≡ b → slice_get f.depends n ≡ Some d
      → cond c [] (map (met_row d) (filter (is_met_now (with_met f) (settled_row f d)) (groups_of f d))) ≡ cond b [] (map (met_row d) (filter (is_met_now f d) (groups_of f d)))
  rows_by true c n d is same at = rw same refl
  rows_by false c n d is same at =
      rw same
      (ap (map (met_row d))
      (filter-same (is_met_now (with_met f) (settled_row f d)) (is_met_now f d) (groups_of f d)
      (λ k g there. met_now_is n d at k g there ∙ ap (λ (b : Bool). b || is_met_now f d g) is)))

  -- with its marks
  pub rows_again : (n : ℕ) (d : DependRow) → slice_get f.depends n ≡ Some d → met_rows_of (with_met f) (settled_row f d) ≡ met_rows_of f d
  rows_again n d at =
      ap (λ (gs : List Group). cond (settled_row (with_met f) (settled_row f d)).met_all [] (map (met_row d) (filter (is_met_now (with_met f) (settled_row f d)) gs))) (groups_met f d)
      ∙ rows_by (settled_row f d).met_all (settled_row (with_met f) (settled_row f d)).met_all n d refl (ap (λ (e : DependRow). e.met_all) (row_again n d at)) at

-- ---- all depends

module _ (f : Farm) where
  depends_again : (ds : List DependRow) → ((n : ℕ) (d : DependRow) → slice_get ds n ≡ Some d → settled_row (with_met f) (settled_row f d) ≡ settled_row f d) → map (settled_row (with_met f)) (map (settled_row f) ds) ≡ map (settled_row f) ds
  depends_again [] same = refl
  depends_again (d ∷ ds) same =
      ap (λ (e : DependRow). e ∷ map (settled_row (with_met f)) (map (settled_row f) ds)) (same 0 d refl)
      ∙ ap (λ (es : List DependRow). settled_row f d ∷ es) (depends_again ds (λ n e at. same (suc n) e at))

  marks_again : (ds : List DependRow) → ((n : ℕ) (d : DependRow) → slice_get ds n ≡ Some d → met_rows_of (with_met f) (settled_row f d) ≡ met_rows_of f d) → met_rows (with_met f) (map (settled_row f) ds) ≡ met_rows f ds
  marks_again [] same = refl
  marks_again (d ∷ ds) same =
      ap (λ (rows : List MetRow). rows ++ met_rows (with_met f) (map (settled_row f) ds)) (same 0 d refl)
      ∙ ap (λ (rows : List MetRow). met_rows_of f d ++ rows) (marks_again ds (λ n e at. same (suc n) e at))

  -- once each group is marked that is met now, no other is
  pub met_again : (high : ℕ) → IsRising depend_key 1 f.depends high → with_met (with_met f) ≡ with_met f
  met_again high rise =
      let depends = depends_again f.depends (row_again f high rise) in
      let met = marks_again f.depends (rows_again f high rise) in
      λ i. record f { depends = depends i; met = met i }

  -- ---- what is open

  still_met : (a m r w : Bool) → (m || w) ≡ true → ((a || (m || r)) || w) ≡ true
  still_met true m r w h = refl
  still_met false true r w h = refl
  still_met false false r w h = or_right r w h

  open_row : (high : ℕ) → IsRising depend_key 1 f.depends high → (slot n : ℕ) (d : DependRow) → slice_get f.depends n ≡ Some d → list_all (λ g. is_met f d g || not (waits_in slot g)) (groups_of f d) ≡ true
      → list_all (λ g. is_met (with_met f) (settled_row f d) g || not (waits_in slot g)) (groups_of (with_met f) (settled_row f d)) ≡ true
  open_row high rise slot n d at all =
      subst (λ (gs : List Group). list_all (λ g. is_met (with_met f) (settled_row f d) g || not (waits_in slot g)) gs ≡ true) (sym (groups_met f d))
      (list_all-from_at (λ g. is_met (with_met f) (settled_row f d) g || not (waits_in slot g)) (groups_of f d)
      (λ k g there.
      ap (λ (b : Bool). b || not (waits_in slot g)) (met_is f high rise n d at k g there)
      ∙ still_met (settled_row f d).met_all (is_met f d g) (are_done (is_done f.slots) g) (not (waits_in slot g))
      (list_all-at (λ g. is_met f d g || not (waits_in slot g)) (groups_of f d) k g all there)))

  -- what is open stays so
  pub open_met : (high : ℕ) → IsRising depend_key 1 f.depends high → (slot : ℕ) → is_open f slot ≡ true → is_open (with_met f) slot ≡ true
  open_met high rise slot open_now =
      list_all-map (λ (d : DependRow). list_all (λ g. is_met (with_met f) d g || not (waits_in slot g)) (groups_of (with_met f) d)) (settled_row f) f.depends
      ∙ list_all-from_at (λ (d : DependRow). list_all (λ g. is_met (with_met f) (settled_row f d) g || not (waits_in slot g)) (groups_of (with_met f) (settled_row f d))) f.depends
      (λ n d at. open_row high rise slot n d at (list_all-at (λ d. list_all (λ g. is_met f d g || not (waits_in slot g)) (groups_of f d)) f.depends n d open_now at))
