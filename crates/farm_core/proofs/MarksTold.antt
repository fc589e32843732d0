-- The marks of depends, told number by number, are those of the met groups: positions of a depend's groups rise.
use Rattle.std.proofs.Common.{◌≡◌, ◌∙◌, ◌<◌, ◌≤◌, ◌+◌, ℕ, suc, zero, Bool, true, false, not, cond, eqb, ◌&&◌, ◌||◌, List, [], ◌∷◌, ◌++◌, map, Some, refl, sym, ap, subst, arith}
use Rattle.std.specs.List.{filter, list_all, list_any, slice_get}
use Rattle.std.proofs.lemmas.Bool.{and_right, eq-eqb, ne_eqb, or_from}
use Rattle.std.proofs.lemmas.List.{map-append}
use Rattle.std.proofs.lemmas.Option.{none-some, same_Some}
use Rattle.farm_types.specs.declared.depend.Group.{Group}
use Rattle.farm_types.specs.declared.depend.MetRow.{MetRow}
use Rattle.farm_types.specs.Farm.{Farm}
use Rattle.farm_types.specs.Rising.{IsRising, depend_key}
use Rattle.farm_rows.specs.declared.farm_row.FarmRow.TheVariants as row
use Rattle.depend_law.proofs.GroupSlots.{group_key}
use Rattle.depend_law.proofs.MetAgain.{positions_rise}
use Rattle.depend_graph.specs.Graph.{Watch, Watched, groups_at, is_met, is_satisfied}
use Rattle.depend_graph.specs.MetAt.{has_mark, is_met_at}
use Rattle.depend_book.specs.Book.{DependLists, IsBook, mark_of, marks_in, marks_of, watch_number}
use Rattle.depend_book.proofs.MarkedAt.{AreNumbered, marks_at, numbered_book, numbered_head}
use Rattle.depend_book.specs.Fits.{Fits, group_in}
use Rattle.depend_book.proofs.Pairs.{row_at}
use Rattle.farm_core.specs.AllRows.{is_told, marks_there, marks_told}

abbrev watched_key : Watched → ℕ
watched_key x = x.group.position

-- ---- one list of groups

-- no group of an earlier position is there
none_before : (p low : ℕ) (gs : List Watched) (high : ℕ) → IsRising watched_key low gs high → p < low → list_any (is_met_at p) gs ≡ false
none_before p low [] high rise before = refl
none_before p low (x ∷ xs) high rise before =
    or_from _ _ (and_right x.met _ (ne_eqb x.group.position p (λ e. absurd (omega (arith, before, rise.0, e))))) (none_before p (x.group.position + 1) xs high rise.1 (omega (arith, before, rise.0)))

and_true : (b : Bool) → (b && true) ≡ b
and_true true = refl
and_true false = refl

or_none : (b : Bool) → (b || false) ≡ b
or_none true = refl
or_none false = refl

-- of groups whose positions rise those are met at theirs that are met
met_there : (low : ℕ) (gs : List Watched) (high k : ℕ) (x : Watched) → IsRising watched_key low gs high → slice_get gs k ≡ Some x
    → (low ≤ x.group.position) × (list_any (is_met_at x.group.position) gs ≡ x.met)
met_there low [] high k x rise at = absurd (none-some x at)
met_there low (y ∷ ys) high zero x rise at =
    let same : y ≡ x = same_Some y x at in
    let here = subst (λ (w : Watched). (low ≤ w.group.position) × (list_any (is_met_at w.group.position) (y ∷ ys) ≡ w.met)) same in
    here (
      rise.0,
      ap (λ (b : Bool). (y.met && b) || list_any (is_met_at y.group.position) ys) (eq-eqb y.group.position y.group.position refl)
          ∙ (ap (λ (b : Bool). (y.met && true) || b) (none_before y.group.position (y.group.position + 1) ys high rise.1 (omega arith)) ∙ (or_none (y.met && true) ∙ and_true y.met)),
    )
met_there low (y ∷ ys) high (suc k) x rise at =
    let later = met_there (y.group.position + 1) ys high k x rise.1 at in
    let other : eqb y.group.position x.group.position ≡ false = ne_eqb y.group.position x.group.position (λ e. absurd (omega (arith, e, later.0))) in
    (omega (arith, rise.0, later.0), ap (λ (b : Bool). b || list_any (is_met_at x.group.position) ys) (and_right y.met _ other) ∙ later.1)

-- marks that a test takes, where it takes those of the groups that are met
taken : (n : ℕ) (test : MetRow → Bool) (gs : List Watched) → ((k : ℕ) (x : Watched) → slice_get gs k ≡ Some x → test (mark_of n x) ≡ x.met)
    → filter test (map (mark_of n) gs) ≡ map (mark_of n) (filter is_met gs)
taken n test [] same = refl
taken n test (x ∷ xs) same = by (test (mark_of n x)) x.met (same 0 x refl) (taken n test xs (λ k y at. same (suc k) y at))
  where
    by : (b m : Bool) → b ≡ m → filter test (map (mark_of n) xs) ≡ map (mark_of n) (filter is_met xs)
        → cond b (mark_of n x ∷ filter test (map (mark_of n) xs)) (filter test (map (mark_of n) xs)) ≡ map (mark_of n) (cond m (x ∷ filter is_met xs) (filter is_met xs))
    by b true is more = ap (λ (c : Bool). cond c (mark_of n x ∷ filter test (map (mark_of n) xs)) (filter test (map (mark_of n) xs))) is ∙ ap (λ (ms : List MetRow). mark_of n x ∷ ms) more
    by b false is more = ap (λ (c : Bool). cond c (mark_of n x ∷ filter test (map (mark_of n) xs)) (filter test (map (mark_of n) xs))) is ∙ more

none_taken : (n : ℕ) (test : MetRow → Bool) (gs : List Watched) → ((x : Watched) → test (mark_of n x) ≡ false) → filter test (map (mark_of n) gs) ≡ []
none_taken n test [] none = refl
none_taken n test (x ∷ xs) none =
    ap (λ (c : Bool). cond c (mark_of n x ∷ filter test (map (mark_of n) xs)) (filter test (map (mark_of n) xs))) (none x) ∙ none_taken n test xs none

-- the marks of one depend, by whether it is satisfied
one_marked : (n : ℕ) (test : MetRow → Bool) (gs : List Watched) → ((x : Watched) → test (mark_of n x) ≡ has_mark x.group.position gs)
    → (list_all is_met gs ≡ false → (high : ℕ) × IsRising watched_key 0 gs high)
    → filter test (map (mark_of n) gs) ≡ cond (list_all is_met gs) [] (map (mark_of n) (filter is_met gs))
one_marked n test gs said rise = by (list_all is_met gs) refl
  where
    by : (b : Bool) → list_all is_met gs ≡ b → filter test (map (mark_of n) gs) ≡ cond b [] (map (mark_of n) (filter is_met gs))
    by true is = none_taken n test gs (λ x. said x ∙ ap (λ (b : Bool). not b && list_any (is_met_at x.group.position) gs) is)
    by false is =
        let r = rise is in
        taken n test gs (λ k x at. said x ∙ (ap (λ (b : Bool). not b && list_any (is_met_at x.group.position) gs) is ∙ (met_there 0 gs r.0 k x r.1 at).1))

-- ---- all depends

groups_there : (low : ℕ) (ws : List Watch) (i : ℕ) (w : Watch) → AreNumbered low ws → slice_get ws i ≡ Some w → (low ≤ w.depend) × (groups_at ws w.depend ≡ w.groups)
groups_there low [] i w k at = absurd (none-some w at)
groups_there low (v ∷ vs) zero w k at =
    let same : v ≡ w = same_Some v w at in
    subst (λ (u : Watch). (low ≤ u.depend) × (groups_at (v ∷ vs) u.depend ≡ u.groups)) same
    ((numbered_head low v vs k).0, ap (λ (b : Bool). cond b v.groups (groups_at vs v.depend)) (eq-eqb v.depend v.depend refl))
groups_there low (v ∷ vs) (suc i) w k at =
    let next = numbered_head low v vs k in
    let later = groups_there (v.depend + 1) vs i w next.1 at in
    let other : eqb v.depend w.depend ≡ false = ne_eqb v.depend w.depend (λ e. absurd (omega (arith, e, later.0))) in
    (omega (arith, next.0, later.0), ap (λ (b : Bool). cond b v.groups (groups_at vs w.depend)) other ∙ later.1)

module _ (all : List Watch) (k : AreNumbered 1 all) where
  one_told : (w : Watch) → groups_at all w.depend ≡ w.groups → (is_satisfied w ≡ false → (high : ℕ) × IsRising watched_key 0 w.groups high) → marks_there all w.depend ≡ marks_in w
  one_told w own rise =
      ap (λ (gs : List Watched). filter (is_told all) (map (mark_of w.depend) gs)) own
      ∙ one_marked w.depend (is_told all) w.groups (λ x. marks_at w.depend x.group.position all k ∙ ap (has_mark x.group.position) own) rise

  each_told : (ws : List Watch) → ((i : ℕ) (w : Watch) → slice_get ws i ≡ Some w → (groups_at all w.depend ≡ w.groups) × (is_satisfied w ≡ false → (high : ℕ) × IsRising watched_key 0 w.groups high))
      → marks_told all (map watch_number ws) ≡ map row.Met (marks_of ws)
  each_told [] each = refl
  each_told (w ∷ ws) each =
      let own = each 0 w refl in
      (λ i. map row.Met (one_told w own.0 own.1 i) ++ each_told ws (λ j v at. each (suc j) v at) i) ∙ sym (map-append row.Met (marks_in w) (marks_of ws))

-- ---- in a farm

rising_as : (low : ℕ) (gs : List Watched) (high : ℕ) → IsRising group_key low (map group_in gs) high → IsRising watched_key low gs high
rising_as low [] high rise = rise
rising_as low (x ∷ xs) high rise = (rise.0, rising_as (x.group.position + 1) xs high rise.1)

module _ (f : Farm) (b : DependLists) (book : IsBook b) (fits : Fits f b) where
  rise_of : (i : ℕ) (w : Watch) → slice_get b.graph.depends i ≡ Some w → is_satisfied w ≡ false → (high : ℕ) × IsRising watched_key 0 w.groups high
  rise_of i w at unmet =
      let own = row_at f b book fits i w at in
      let d = own.0 in
      let pair = own.2 in
      let positions = positions_rise f d in
      let same = pair.groups (pair.all ∙ unmet) in
      (positions.0, rising_as 0 w.groups positions.0 (subst (λ (gs : List Group). IsRising group_key 0 gs positions.0) (sym same) positions.1))

  -- the marks of all numbers are all marks
  pub marks_all : marks_told b.graph.depends (map depend_key b.rows) ≡ map row.Met (marks_of b.graph.depends)
  marks_all =
      let k = numbered_book b book in
      ap (marks_told b.graph.depends) book.numbers
      ∙ each_told b.graph.depends k b.graph.depends (λ i w at. ((groups_there 1 b.graph.depends i w k at).1, λ unmet. rise_of i w at unmet))
