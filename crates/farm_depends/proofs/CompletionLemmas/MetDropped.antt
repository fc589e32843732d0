-- A depend is dropped, and each group is marked that is met then: whether what was met was marked before makes no difference.
use Rattle.std.proofs.Common.{◌≡◌, ℕ, suc, Bool, true, false, cond, eqb, ◌||◌, List, [], ◌∷◌, ◌++◌, map, Some, refl, sym, ◌∙◌}
use Rattle.std.specs.List.{filter, list_all, slice_get}
use Rattle.farm_types.specs.declared.depend.DependRow.{DependRow}
use Rattle.farm_types.specs.DependActs.{dropped, satisfied_row}
use Rattle.farm_types.specs.Depends.{are_done, groups_of, is_done}
use Rattle.farm_types.specs.Farm.{Farm}
use Rattle.farm_types.specs.Rising.{IsRising, depend_key}
use Rattle.farm_types.specs.Settle.{is_met_now, met_row, met_rows, met_rows_of, settled_row, with_met}
use Rattle.depend_law.proofs.DependKept.{marks_stay}
use Rattle.depend_law.proofs.MetAgain.{row_again, rows_again}

-- ---- other depends

module _ (f : Farm) (n : ℕ) where
  groups_dropped : groups_of (dropped f n) ≡ groups_of f
  unfolding groups_of
  groups_dropped = refl

  module _ (d : DependRow) (other : eqb d.depend n ≡ false) where
    now_dropped : is_met_now (dropped f n) d ≡ is_met_now f d
    now_dropped i g = d.met_all || marks_stay f n d g other f.met i || are_done (is_done f.slots) g

    settled_other : settled_row (dropped f n) d ≡ settled_row f d
    settled_other i = record d { met_all = d.met_all || list_all (now_dropped i) (groups_dropped i d) }

    rows_other : met_rows_of (dropped f n) d ≡ met_rows_of f d
    rows_other i = cond (settled_other i).met_all [] (map (met_row d) (filter (now_dropped i) (groups_dropped i d)))

-- ---- all depends

module _ (f : Farm) (n high : ℕ) (rise : IsRising depend_key 1 f.depends high) where
  abbrev marked : Farm
  marked = dropped (with_met f) n

  abbrev unmarked : Farm
  unmarked = dropped f n

  row_by : (c : Bool) (i : ℕ) (d : DependRow) → eqb d.depend n ≡ c → slice_get f.depends i ≡ Some d
      → settled_row marked (cond c (record (settled_row f d) { met_all = true }) (settled_row f d)) ≡ settled_row unmarked (cond c (record d { met_all = true }) d)
  row_by true i d is at = refl
  row_by false i d is at = settled_other (with_met f) n (settled_row f d) is ∙ (row_again f high rise i d at ∙ sym (settled_other f n d is))

  rows_by : (c : Bool) (i : ℕ) (d : DependRow) → eqb d.depend n ≡ c → slice_get f.depends i ≡ Some d
      → met_rows_of marked (cond c (record (settled_row f d) { met_all = true }) (settled_row f d)) ≡ met_rows_of unmarked (cond c (record d { met_all = true }) d)
  rows_by true i d is at = refl
  rows_by false i d is at = rows_other (with_met f) n (settled_row f d) is ∙ (rows_again f high rise i d at ∙ sym (rows_other f n d is))

  all_rows : (ds : List DependRow) → ((i : ℕ) (d : DependRow) → slice_get ds i ≡ Some d → settled_row marked (satisfied_row n (settled_row f d)) ≡ settled_row unmarked (satisfied_row n d))
      → map (settled_row marked) (map (satisfied_row n) (map (settled_row f) ds)) ≡ map (settled_row unmarked) (map (satisfied_row n) ds)
  all_rows [] each = refl
  all_rows (d ∷ ds) each = λ i. each 0 d refl i ∷ all_rows ds (λ k e at. each (suc k) e at) i

  all_marks : (ds : List DependRow) → ((i : ℕ) (d : DependRow) → slice_get ds i ≡ Some d → met_rows_of marked (satisfied_row n (settled_row f d)) ≡ met_rows_of unmarked (satisfied_row n d))
      → met_rows marked (map (satisfied_row n) (map (settled_row f) ds)) ≡ met_rows unmarked (map (satisfied_row n) ds)
  all_marks [] each = refl
  all_marks (d ∷ ds) each = λ i. each 0 d refl i ++ all_marks ds (λ k e at. each (suc k) e at) i

  pub met_before_drop : with_met (dropped (with_met f) n) ≡ with_met (dropped f n)
  met_before_drop =
      let depends = all_rows f.depends (λ i d at. row_by (eqb d.depend n) i d refl at) in
      let met = all_marks f.depends (λ i d at. rows_by (eqb d.depend n) i d refl at) in
      λ i. record f { depends = depends i; met = met i }
