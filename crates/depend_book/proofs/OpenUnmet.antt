-- The graph has what the farm's depends say: which groups are met, which frames are open, and how many groups are left.
use Rattle.std.proofs.Common.{◌≡◌, ℕ, ◌+◌, Bool, true, false, cond, not, ◌&&◌, ◌||◌, List, [], ◌∷◌, map, length, Option, Some, eqb, is_some, refl, sym, ap, ◌∙◌}
use Rattle.std.specs.List.{AllZip, filter, find, list_all, list_any, slice_get, sum_by}
use Rattle.std.proofs.lemmas.Bool.{eqb-true, or_left}
use Rattle.std.proofs.lemmas.List.{length-map}
use Rattle.std.proofs.lemmas.List.Folds.{fold-map, list_all-map, sum_by-zero}
use Rattle.farm_types.specs.declared.depend.DependRow.{DependRow}
use Rattle.farm_types.specs.declared.depend.Group.{Group}
use Rattle.farm_types.specs.DependActs.{depend_at, unmet_in}
use Rattle.farm_types.specs.Depends.{groups_left, groups_of, is_marked, is_met, is_open, waits_in}
use Rattle.farm_types.specs.Farm.{Farm}
use Rattle.farm_types.proofs.Lists.{found_is, list_all-at, list_all-from_at}
use Rattle.depend_graph.specs.Graph.{Watch, Watched, has_depend, holds, is_satisfied, unmet_of}
use Rattle.depend_graph.specs.Graph as graph
use Rattle.depend_book.specs.Book.{DependLists, IsBook, joined}
use Rattle.depend_book.specs.Fits.{Fits, group_in}
pub use Rattle.depend_book.proofs.Marked.{marked_is}
pub use Rattle.depend_book.proofs.Pairs.{IsPair, groups_joined, pairs, row_at, watch_at}
use Rattle.depend_law.proofs.Stable.{list_all-same}
use Rattle.depend_book.proofs.Zips.{filter-map, filter-none, find_place, zip_all-alike, zip_at, zip_sum-alike}

-- ---- tests

-- how many frames wait in groups of the depend that aren't met
abbrev pub waiting_in : Watch → ℕ
waiting_in w = sum_by (λ (x : Watched). length x.group.waiters) (filter (λ (x : Watched). not x.met) w.groups)

met_or_not : (m a : Bool) → (m || not a) ≡ eqb (cond (not m && a) 1 0) 0
met_or_not true a = refl
met_or_not false true = refl
met_or_not false false = refl

none_held : (m a : Bool) → m ≡ true → eqb (cond (not m && a) 1 0) 0 ≡ true
none_held m a is = ap (λ (b : Bool). eqb (cond (not b && a) 1 0) 0) is

-- all groups of a satisfied depend are met
pub each_met : (w : Watch) → is_satisfied w ≡ true → (k : ℕ) (x : Watched) → slice_get w.groups k ≡ Some x → x.met ≡ true
each_met w all k x at = list_all-at graph.is_met w.groups k x all at

module _ (f : Farm) (b : DependLists) (book : IsBook b) (fits : Fits f b) where
  -- ---- what is met

  met_by : (a m c : Bool) → a ≡ false → m ≡ c → (a || m) ≡ c
  met_by a m c unmet is = ap (λ (x : Bool). x || m) unmet ∙ is

  -- a group of a depend that isn't satisfied is met where the graph has it so
  pub met_is : (i k : ℕ) (d : DependRow) (w : Watch) (x : Watched) → slice_get b.rows i ≡ Some d → slice_get b.graph.depends i ≡ Some w → slice_get w.groups k ≡ Some x → d.met_all ≡ false
      → is_met (joined f b) d x.group ≡ x.met
  met_is i k d w x row watch group unmet =
      met_by d.met_all (is_marked (joined f b) d x.group) x.met unmet (marked_is f b book fits i k d w x row watch group unmet)

  -- its groups
  groups_are : (d : DependRow) (w : Watch) → IsPair f d w → d.met_all ≡ false → groups_of (joined f b) d ≡ map group_in w.groups
  groups_are d w pair unmet = groups_joined f b d ∙ sym (pair.groups unmet)

  -- ---- what is open

  abbrev passes : ℕ → DependRow → Group → Bool
  passes slot d g = is_met (joined f b) d g || not (waits_in slot g)

  abbrev is_zero : ℕ → Watched → Bool
  is_zero slot x = eqb (cond (holds slot x) 1 0) 0

  open_in : (slot i : ℕ) (d : DependRow) (w : Watch) (c : Bool) → slice_get b.rows i ≡ Some d → slice_get b.graph.depends i ≡ Some w → IsPair f d w → d.met_all ≡ c
      → list_all (passes slot d) (groups_of (joined f b) d) ≡ eqb (graph.unmet_in slot w) 0
  open_in slot i d w true row watch pair is =
      let all : is_satisfied w ≡ true = sym pair.all ∙ is in
      list_all-from_at (passes slot d) (groups_of (joined f b) d) (λ k g at. or_left _ _ (or_left _ _ is))
      ∙ sym (sum_by-zero (λ (x : Watched). cond (holds slot x) 1 0) w.groups
      ∙ list_all-from_at (is_zero slot) w.groups (λ k x at. none_held x.met (waits_in slot x.group) (each_met w all k x at)))
  open_in slot i d w false row watch pair is =
      ap (list_all (passes slot d)) (groups_are d w pair is)
      ∙ (list_all-map (passes slot d) group_in w.groups
      ∙ (list_all-same (λ (x : Watched). passes slot d x.group) (is_zero slot) w.groups
      (λ k x at. ap (λ (m : Bool). m || not (waits_in slot x.group)) (met_is i k d w x row watch at is) ∙ met_or_not x.met (waits_in slot x.group))
      ∙ sym (sum_by-zero (λ (x : Watched). cond (holds slot x) 1 0) w.groups)))

  -- a frame is open where the groups it waits in are all met
  pub open_unmet : (slot : ℕ) → is_open (joined f b) slot ≡ eqb (unmet_of b.graph.depends slot) 0
  open_unmet slot =
      zip_all-alike (IsPair f) (λ (d : DependRow). list_all (passes slot d) (groups_of (joined f b) d)) (λ (w : Watch). eqb (graph.unmet_in slot w) 0) b.rows b.graph.depends (pairs f b book fits)
      (λ i d w row watch pair. open_in slot i d w d.met_all row watch pair refl)
      ∙ sym (sum_by-zero (graph.unmet_in slot) b.graph.depends)

  -- ---- how many groups are left

  left_by : (a c r : Bool) (x y : ℕ) → a ≡ r → c ≡ r → (r ≡ false → x ≡ y) → cond a 0 x ≡ cond c 0 y
  left_by a c true x y first second same = ap (λ (t : Bool). cond t 0 x) first ∙ sym (ap (λ (t : Bool). cond t 0 y) second)
  left_by a c false x y first second same = ap (λ (t : Bool). cond t 0 x) first ∙ (same refl ∙ sym (ap (λ (t : Bool). cond t 0 y) second))

  left_in : (d : DependRow) (w : Watch) → IsPair f d w → cond d.met_all 0 (length (groups_of (joined f b) d)) ≡ cond (is_satisfied w) 0 (length w.groups)
  left_in d w pair =
      left_by d.met_all (is_satisfied w) d.met_all (length (groups_of (joined f b) d)) (length w.groups) refl (sym pair.all)
      (λ unmet. ap length (groups_are d w pair unmet) ∙ length-map w.groups group_in)

  -- as many groups are left
  pub left_is : groups_left (joined f b) ≡ graph.groups_left b.graph.depends
  left_is =
      zip_sum-alike (IsPair f) (λ (d : DependRow). cond d.met_all 0 (length (groups_of (joined f b) d))) (λ (w : Watch). cond (is_satisfied w) 0 (length w.groups)) b.rows b.graph.depends (pairs f b book fits)
      (λ i d w row watch pair. left_in d w pair)

  -- ---- which depends are there

  found_by : (n : ℕ) (ds : List DependRow) (ws : List Watch) → AllZip (IsPair f) ds ws → is_some (find (λ (d : DependRow). eqb d.depend n) ds) ≡ list_any (λ (w : Watch). eqb w.depend n) ws
  found_by n [] [] zip = refl
  found_by n [] (w ∷ ws) zip = absurd zip
  found_by n (d ∷ ds) [] zip = absurd zip
  found_by n (d ∷ ds) (w ∷ ws) zip =
      step (eqb d.depend n) (find (λ (e : DependRow). eqb e.depend n) ds)
      ∙ λ i. eqb (zip.0.number i) n || found_by n ds ws zip.1 i
    where
      step : (c : Bool) (o : Option DependRow) → is_some (cond c (Some d) o) ≡ (c || is_some o)
      step true o = refl
      step false o = refl

  -- the depend is there
  pub depend_there : (n : ℕ) → is_some (depend_at (joined f b) n) ≡ has_depend b.graph n
  depend_there n = found_by n b.rows b.graph.depends (pairs f b book fits)

  -- the place of a depend that is there
  pub depend_place : (n : ℕ) (d : DependRow) → depend_at (joined f b) n ≡ Some d → (i : ℕ) × (slice_get b.rows i ≡ Some d) × (d.depend ≡ n)
  depend_place n d found =
      let place = find_place (λ (e : DependRow). eqb e.depend n) b.rows d found in
      (place.0, place.1, eqb-true d.depend n (found_is (λ (e : DependRow). eqb e.depend n) b.rows d found))

  -- ---- how many frames wait

  abbrev is_left : DependRow → Group → Bool
  is_left d g = not (is_met (joined f b) d g)

  waiting_by : (i : ℕ) (d : DependRow) (w : Watch) (c : Bool) → slice_get b.rows i ≡ Some d → slice_get b.graph.depends i ≡ Some w → IsPair f d w → d.met_all ≡ c
      → sum_by (λ (g : Group). length g.waiters) (filter (is_left d) (groups_of (joined f b) d)) ≡ waiting_in w
  waiting_by i d w true row watch pair is =
      let all : is_satisfied w ≡ true = sym pair.all ∙ is in
      ap (sum_by (λ (g : Group). length g.waiters)) (filter-none (is_left d) (groups_of (joined f b) d) (λ k g at. ap not (or_left d.met_all (is_marked (joined f b) d g) is)))
      ∙ sym (ap (sum_by (λ (x : Watched). length x.group.waiters)) (filter-none (λ (x : Watched). not x.met) w.groups (λ k x at. ap not (each_met w all k x at))))
  waiting_by i d w false row watch pair is =
      ap (λ (gs : List Group). sum_by (λ (g : Group). length g.waiters) (filter (is_left d) gs)) (groups_are d w pair is)
      ∙ (ap (sum_by (λ (g : Group). length g.waiters))
      (filter-map group_in (is_left d) (λ (x : Watched). not x.met) w.groups (λ k x at. ap not (met_is i k d w x row watch at is)))
      ∙ fold-map (λ (a : ℕ) (g : Group). a + length g.waiters) group_in 0 (filter (λ (x : Watched). not x.met) w.groups))

  -- how many frames wait in its unmet groups
  pub waiting_is : (i : ℕ) (d : DependRow) (w : Watch) → slice_get b.rows i ≡ Some d → slice_get b.graph.depends i ≡ Some w → unmet_in (joined f b) (Some d) ≡ waiting_in w
  waiting_is i d w row watch =
      waiting_by i d w d.met_all row watch (zip_at (IsPair f) b.rows b.graph.depends (pairs f b book fits) i d w row watch) refl
