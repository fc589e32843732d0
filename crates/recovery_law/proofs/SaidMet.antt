-- The rows of met groups say them.
use Rattle.std.proofs.Common.{◌≡◌, ◌≤◌, ℕ, suc, ◌+◌, ◌*◌, eqb, inl, inr, Bool, true, false, not, cond, ◌||◌, List, [], ◌∷◌, ◌++◌, map, length, Option, Some, Result, refl, ap, sym, subst, ◌∙◌, arith}
use Rattle.std.specs.List.{filter, find, list_any, slice_get}
use Rattle.std.proofs.lemmas.Bool.{eq-eqb, eqb-true}
use Rattle.std.proofs.lemmas.Map.Keys.{any_passes_from_place}
use Rattle.std.proofs.lemmas.Option.{none-some, slice_get-map}
use Rattle.std.specs.Cmp.Derive.{both_true}
use Rattle.farm_types.specs.declared.depend.DependRow.{DependRow}
use Rattle.farm_types.specs.declared.depend.Group.{Group}
use Rattle.farm_types.specs.declared.depend.MetRow.{MetRow}
use Rattle.farm_types.specs.declared.limits.TheConstants.{MOST_FRAMES}
use Rattle.farm_types.specs.Depends.{groups_of}
use Rattle.farm_types.specs.Farm.{Farm}
use Rattle.farm_types.specs.Kept.{IsKeptFarm, is_end_there, is_kept_depend}
use Rattle.farm_types.specs.Rising.{IsRising, depend_key}
use Rattle.farm_types.specs.Settle.{is_met_now, met_row, met_rows, met_rows_of, settled_row}
use Rattle.farm_types.proofs.Lists.{and_both, list_all-at}
use Rattle.farm_types.proofs.Passes.{for_some-there, option_map-from}
use Rattle.farm_law.proofs.Filtered.{at_kept, rising-filter}
use Rattle.farm_law.proofs.KeptJobsAdded.{in_either}
use Rattle.farm_law.proofs.KeptJobsLists.{rising-append, rising_lower}
use Rattle.depend_law.proofs.GroupSlots.{group_key}
use Rattle.depend_law.proofs.Waiters.{depend_holds}
use Rattle.farm_rows.specs.declared.farm_row.FarmRow.{FarmRow}
use Rattle.farm_rows.specs.declared.farm_row.FarmRow.TheVariants as row
use Rattle.farm_rows.specs.declared.ids.TheConstants.{GROUP_IDS}
use Rattle.farm_rows.specs.Recovery.{Said, StoredKey, farm_with, groups_so_far, has_group, met_fits}
use Rattle.recovery_law.proofs.Firsts.{by_keys, numbered_map}
use Rattle.recovery_law.proofs.FramesThere.{find_itself, groups_alike}
use Rattle.recovery_law.proofs.Parts.{upto_depends, upto_met}
use Rattle.recovery_law.proofs.SaidDepends.{other_by}
use Rattle.recovery_law.proofs.SaidEnd.{settled_at}
use Rattle.recovery_law.proofs.SaidSlots.{at_place}
use Rattle.recovery_law.proofs.Stage.{IsPast, Kind, Stage, all_staged}

abbrev pub met_key : MetRow → ℕ
met_key r = GROUP_IDS * r.depend + r.position

abbrev pub met_kind : Farm → Kind MetRow
met_kind f = record { kind = 10; make = λ n x. row.Met x; id = λ n x. met_key x; farm = upto_met f }

-- ---- keys

rising_higher : {X : Type 0} (key : X → ℕ) (low : ℕ) (xs : List X) (high more : ℕ) → high ≤ more → IsRising key low xs high → IsRising key low xs more
rising_higher key low [] high more h rise = omega (arith, h, rise)
rising_higher key low (x ∷ xs) high more h rise = (rise.0, rising_higher key (key x + 1) xs high more h rise.1)

-- the marks of a depend rise as its groups do
rising_marks : (d : DependRow) (low : ℕ) (gs : List Group) (high : ℕ) → IsRising group_key low gs high → IsRising met_key (GROUP_IDS * d.depend + low) (map (met_row d) gs) (GROUP_IDS * d.depend + high)
rising_marks d low [] high rise = omega (arith, rise)
rising_marks d low (g ∷ gs) high rise =
    let next : GROUP_IDS * d.depend + (g.position + 1) ≡ GROUP_IDS * d.depend + g.position + 1 = omega arith in
    (omega (arith, rise.0), subst (λ (n : ℕ). IsRising met_key n (map (met_row d) gs) (GROUP_IDS * d.depend + high)) next (rising_marks d (g.position + 1) gs high rise.1))

module _ (f : Farm) where
  -- the marks of all of them
  rising_all : (low : ℕ) (ds : List DependRow) (high : ℕ) → ((n : ℕ) (d : DependRow) → slice_get ds n ≡ Some d → IsRising met_key (GROUP_IDS * d.depend) (met_rows_of f d) (GROUP_IDS * (d.depend + 1)))
      → IsRising depend_key low ds high → IsRising met_key (GROUP_IDS * low) (met_rows f ds) (GROUP_IDS * high)
  rising_all low [] high each rise = omega (arith, rise)
  rising_all low (d ∷ ds) high each rise =
      rising_lower met_key (GROUP_IDS * low) (GROUP_IDS * d.depend) (met_rows_of f d ++ met_rows f ds) (GROUP_IDS * high) (omega (arith, rise.0))
      (rising-append met_key (GROUP_IDS * d.depend) (GROUP_IDS * (d.depend + 1)) (GROUP_IDS * high) (met_rows_of f d) (met_rows f ds) (each 0 d refl)
      (rising_all (d.depend + 1) ds high (λ n e at. each (suc n) e at) rise.1))

  -- ---- whose marks they are

  -- a mark of a group of the depend, which isn't satisfied
  abbrev pub MarksOf : DependRow → MetRow → Type 0
  MarksOf d r = ((settled_row f d).met_all ≡ false) × (n : ℕ) × (g : Group) × (slice_get (groups_of f d) n ≡ Some g) × (met_row d g ≡ r)

  own_mark : (d : DependRow) (b : Bool) (n : ℕ) (r : MetRow) → (settled_row f d).met_all ≡ b → slice_get (cond b [] (map (met_row d) (filter (is_met_now f d) (groups_of f d)))) n ≡ Some r → MarksOf d r
  own_mark d true n r is at = absurd (none-some r at)
  own_mark d false n r is at =
      let g = option_map-from (met_row d) (slice_get (filter (is_met_now f d) (groups_of f d)) n) r (sym (slice_get-map (met_row d) (filter (is_met_now f d) (groups_of f d)) n) ∙ at) in
      let there = at_kept (is_met_now f d) (groups_of f d) n g.0 g.1 in
      (is, there.0, g.0, there.1, g.2)

  -- each mark is of a group of one of the depends
  pub mark_of : (ds : List DependRow) (n : ℕ) (r : MetRow) → slice_get (met_rows f ds) n ≡ Some r → (m : ℕ) × (d : DependRow) × (slice_get ds m ≡ Some d) × MarksOf d r
  mark_of [] n r at = absurd (none-some r at)
  mark_of (d ∷ ds) n r at = elim (in_either (met_rows_of f d) (met_rows f ds) n r at) [
    | inl here ↦ (0, d, refl, own_mark d (settled_row f d).met_all n r refl here)
    | inr there ↦ (let later = mark_of ds there.0 r there.1 in (suc later.0, later.1, later.2, later.3))
  ]

  met_groups : (done : List MetRow) (d : DependRow) → groups_so_far (upto_met f done) d ≡ groups_so_far (upto_depends f f.depends) d
  unfolding groups_so_far
  met_groups done d = refl

module _ (f : Farm) (k : IsKeptFarm f) where
  -- what is marked is what is met
  pub rows_are : met_rows f f.depends ≡ f.met
  rows_are = ap (λ (g : Farm). g.met) k.depends.met

  rising_own : (n : ℕ) (d : DependRow) → slice_get f.depends n ≡ Some d → (b : Bool) → d.met_all ≡ b → IsRising met_key (GROUP_IDS * d.depend) (cond b [] (map (met_row d) (filter (is_met_now f d) (groups_of f d)))) (GROUP_IDS * (d.depend + 1))
  rising_own n d at true met = omega arith
  rising_own n d at false unmet =
      let ends = and_both (is_end_there f d.waiter) (d.met_all || is_end_there f d.target) (list_all-at (is_kept_depend f) f.depends n d k.depends.ends_there at) in
      let holds = depend_holds f k.rows d ends.0 (other_by d.met_all (is_end_there f d.target) unmet ends.1) in
      let rise = rising_marks d 0 (filter (is_met_now f d) (groups_of f d)) MOST_FRAMES (rising-filter group_key (is_met_now f d) 0 (groups_of f d) MOST_FRAMES holds.rise) in
      rising_lower met_key (GROUP_IDS * d.depend) (GROUP_IDS * d.depend + 0) _ (GROUP_IDS * (d.depend + 1)) (omega arith) (rising_higher met_key (GROUP_IDS * d.depend + 0) _ (GROUP_IDS * d.depend + MOST_FRAMES) (GROUP_IDS * (d.depend + 1)) (omega arith) rise)

  met_rise : IsRising met_key (GROUP_IDS * 1) f.met (GROUP_IDS * f.next_depend)
  met_rise =
      subst (λ (rows : List MetRow). IsRising met_key (GROUP_IDS * 1) rows (GROUP_IDS * f.next_depend)) rows_are
      (rising_all f 1 f.depends f.next_depend
      (λ n d at. subst (λ (b : Bool). IsRising met_key (GROUP_IDS * d.depend) (cond b [] (map (met_row d) (filter (is_met_now f d) (groups_of f d)))) (GROUP_IDS * (d.depend + 1)))
      (sym (ap (λ (e : DependRow). e.met_all) (settled_at f k n d at))) (rising_own n d at d.met_all refl))
      k.depends.rise)

  mark_fits : (done : List MetRow) (m n : ℕ) (d : DependRow) (g : Group) → slice_get f.depends m ≡ Some d → d.met_all ≡ false → slice_get (groups_of f d) n ≡ Some g → met_fits (upto_met f done) (met_row d g) ≡ true
  mark_fits done m n d g at unmet there =
      let wanted : DependRow → Bool = λ (e : DependRow). eqb e.depend d.depend in
      let found = find_itself depend_key wanted 1 f.depends f.next_depend m d k.depends.rise at (λ e passes. eqb-true e.depend d.depend passes) (eq-eqb d.depend d.depend refl) in
      let groups = met_groups f done d ∙ groups_alike f k.rows f.depends d in
      let position : Group → Bool = λ (h : Group). eqb h.position g.position in
      for_some-there (find wanted f.depends) (has_group (upto_met f done) g.position) d found
      (both_true (ap not unmet) (ap (list_any position) groups ∙ any_passes_from_place position (groups_of f d) n g there (eq-eqb g.position g.position refl)))

  met_fit : (done : List MetRow) (x : MetRow) (rest : List MetRow) → done ++ x ∷ rest ≡ f.met → met_fits (upto_met f done) x ≡ true
  met_fit done x rest is =
      let at : slice_get (met_rows f f.depends) (length done) ≡ Some x = subst (λ (rows : List MetRow). slice_get rows (length done) ≡ Some x) (is ∙ sym rows_are) (at_place done rest x) in
      let own = mark_of f f.depends (length done) x at in
      let mark = own.3 in
      let unmet = sym (ap (λ (e : DependRow). e.met_all) (settled_at f k own.0 own.1 own.2)) ∙ mark.0 in
      subst (λ (r : MetRow). met_fits (upto_met f done) r ≡ true) mark.4 (mark_fits done own.0 mark.1 own.1 mark.2 own.2 unmet mark.3)

module _ (format : ℕ) (f : Farm) (k : IsKeptFarm f) where
  met_stage : Stage format (met_kind f) f.met
  met_stage = record { keys = λ n x. refl; formats = λ n x. refl; adds = λ done x. refl; fits = met_fit f k }

  pub met_said : (more : List FarmRow) (said : Result Said StoredKey) → ((last : Option StoredKey) → IsPast last 10 → farm_with format last (upto_met f f.met) more ≡ said)
      → (last : Option StoredKey) → IsPast last 9 → farm_with format last (upto_met f []) (map row.Met f.met ++ more) ≡ said
  met_said more said next last past =
      ap (λ (rows : List FarmRow). farm_with format last (upto_met f []) (rows ++ more)) (sym (numbered_map row.Met 0 f.met))
      ∙ all_staged format (met_kind f) f.met met_stage more said next last (GROUP_IDS * 1) 9 (omega arith) (by_keys met_key (GROUP_IDS * 1) 0 f.met (GROUP_IDS * f.next_depend) (met_rise f k)) past
