-- What the book keeps where the graph's depends change, each by itself.
use Rattle.std.proofs.Common.{◌≡◌, ℕ, ◌+◌, ◌≤◌, Bool, true, false, List, [], ◌∷◌, map, length, eqb, refl, sym, ap, subst, ◌∙◌, arith}
use Rattle.std.specs.Prelude.{if◌then◌else◌}
use Rattle.std.specs.List.{list_all, list_any, slice_set}
use Rattle.std.specs.Cmp.Derive.{both_true}
use Rattle.std.proofs.lemmas.Bool.{false≢true}
use Rattle.std.proofs.Math.ListN.{length-set}
use Rattle.std.proofs.lemmas.List.{length-map, map-id}
use Rattle.farm_types.specs.declared.depend.DependRow.{DependRow}
use Rattle.farm_types.specs.Rising.{IsRising, depend_key}
use Rattle.farm_types.proofs.ChangedLists.{map-map_kept}
use Rattle.farm_types.proofs.ListSums.{sum_by-map_le}
use Rattle.farm_types.proofs.Lists.{and_both}
use Rattle.depend_graph.specs.Graph.{GraphLists, HasOpened, OpenedLists, Watch, Watched, completed, completed_in, groups_left, is_completed, is_met, is_satisfied, met_group, met_where, was_satisfied, with_done, without_depend}
use Rattle.depend_book.specs.Book.{DependLists, IsBook, rows_of, watch_number, with_graph}
use Rattle.depend_book.specs.Satisfied.{satisfied_all}
use Rattle.depend_book.proofs.Satisfied.{Keeps, rows_marked, satisfied_all_is}

-- ---- the changes

all_stay : (change : Watched → Watched) → ((w : Watched) → is_met w ≡ true → is_met (change w) ≡ true) → (ws : List Watched) → list_all is_met ws ≡ true → list_all is_met (map change ws) ≡ true
all_stay change stays [] all = refl
all_stay change stays (w ∷ ws) all =
    let both = and_both (is_met w) (list_all is_met ws) all in
    both_true (stays w both.0) (all_stay change stays ws both.1)

completed_stays : (b : Bool) (done : List Bool) (slot : ℕ) (w : Watched) → is_completed done slot w.group ≡ b → is_met w ≡ true → is_met (completed done slot w) ≡ true
completed_stays true done slot w is met = rw is refl
completed_stays false done slot w is met = rw is met

completed_keeps : (done : List Bool) (slot : ℕ) → Keeps (completed_in done slot)
completed_keeps done slot =
    record {
      number = λ w. refl;
      satisfied = λ w. all_stay (completed done slot) (λ g. completed_stays (is_completed done slot g.group) done slot g refl) w.groups;
      count = λ w. length-map w.groups (completed done slot);
    }

nothing_keeps : Keeps (λ w. w)
nothing_keeps = record { number = λ w. refl; satisfied = λ w is. is; count = λ w. refl }

module _ (depend : ℕ) where
  met_number : (b : Bool) (w : Watch) → eqb w.depend depend ≡ b → watch_number (met_where depend w) ≡ watch_number w
  met_number true w is = rw is refl
  met_number false w is = rw is refl

  met_satisfied : (b : Bool) (w : Watch) → eqb w.depend depend ≡ b → is_satisfied w ≡ true → is_satisfied (met_where depend w) ≡ true
  met_satisfied true w is all = rw is (all_stay met_group (λ g met. refl) w.groups all)
  met_satisfied false w is all = rw is all

  met_count : (b : Bool) (w : Watch) → eqb w.depend depend ≡ b → length (met_where depend w).groups ≡ length w.groups
  met_count true w is = rw is (length-map w.groups met_group)
  met_count false w is = rw is refl

  met_keeps : Keeps (met_where depend)
  met_keeps =
      record {
        number = λ w. met_number (eqb w.depend depend) w refl;
        satisfied = λ w. met_satisfied (eqb w.depend depend) w refl;
        count = λ w. met_count (eqb w.depend depend) w refl;
      }

-- the depends after a change that keeps numbers and what is satisfied
pub record IsKept (olds news : List Watch) : Type 0 where
  pub change : Watch → Watch
  pub keeps : Keeps change
  pub is : news ≡ map change olds

pub done_kept : (g : GraphLists) (slot : ℕ) (done : Bool) → IsKept g.depends (with_done g slot done).depends
done_kept g slot true = record { change = completed_in (slice_set g.done slot true) slot; keeps = completed_keeps (slice_set g.done slot true) slot; is = refl }
done_kept g slot false = record { change = λ w. w; keeps = nothing_keeps; is = sym (map-id g.depends) }

pub dropped_kept : (g : GraphLists) (depend : ℕ) → IsKept g.depends (without_depend g depend).depends
dropped_kept g depend = record { change = met_where depend; keeps = met_keeps depend; is = refl }

-- ---- the rows, as they are marked

-- marked where the depend became satisfied, the rows say what is satisfied now
pub rows_after : (b : DependLists) (news : List Watch) (satisfied : List ℕ) → IsBook b → IsKept b.graph.depends news
    → ((n : ℕ) → list_any (λ m. eqb m n) satisfied ≡ was_satisfied b.graph.depends news n) → satisfied_all satisfied b.rows ≡ rows_of b.rows news
rows_after b news satisfied book kept listed =
    let marked = rows_marked kept.change kept.keeps satisfied b.rows b.graph.depends 1 b.next book.rise book.rows_are book.numbers
    (λ n above. listed n ∙ ap (λ (ws : List Watch). was_satisfied b.graph.depends ws n) kept.is) in
    satisfied_all_is satisfied b.rows ∙ marked ∙ sym (ap (rows_of b.rows) kept.is)

-- the same of what a change of the graph tells
pub rows_told : (b : DependLists) (g : GraphLists) (opened : OpenedLists) (numbers : List ℕ) (rows : List DependRow) → IsBook b → IsKept b.graph.depends g.depends
    → HasOpened b.graph.depends g.depends opened → numbers ≡ opened.satisfied → rows ≡ satisfied_all numbers b.rows → rows ≡ rows_of b.rows g.depends
rows_told b g opened numbers rows book kept told same is =
    is ∙ ap (λ (ns : List ℕ). satisfied_all ns b.rows) same ∙ rows_after b g.depends opened.satisfied book kept told.satisfied

-- ---- the book

keys_of_rows : (rows : List DependRow) (ws : List Watch) → map depend_key (rows_of rows ws) ≡ map depend_key rows
keys_of_rows [] ws = refl
keys_of_rows (d ∷ ds) [] = refl
keys_of_rows (d ∷ ds) (w ∷ ws) = λ j. d.depend ∷ keys_of_rows ds ws j

rows_twice : (rows : List DependRow) (ws : List Watch) → rows_of (rows_of rows ws) ws ≡ rows_of rows ws
rows_twice [] ws = refl
rows_twice (d ∷ ds) [] = refl
rows_twice (d ∷ ds) (w ∷ ws) = λ j. record d { met_all = is_satisfied w } ∷ rows_twice ds ws j

length_of_rows : (rows : List DependRow) (ws : List Watch) → length (rows_of rows ws) ≡ length rows
length_of_rows [] ws = refl
length_of_rows (d ∷ ds) [] = refl
length_of_rows (d ∷ ds) (w ∷ ws) = omega (arith, length_of_rows ds ws)

rows_rise : (rows : List DependRow) (ws : List Watch) (low high : ℕ) → IsRising depend_key low rows high → IsRising depend_key low (rows_of rows ws) high
rows_rise [] ws low high rise = rise
rows_rise (d ∷ ds) [] low high rise = rise
rows_rise (d ∷ ds) (w ∷ ws) low high rise = (rise.0, rows_rise ds ws (d.depend + 1) high rise.1)

module _ (change : Watch → Watch) (keeps : Keeps change) where
  left_by : (old new : Bool) (w : Watch) → is_satisfied w ≡ old → is_satisfied (change w) ≡ new → (old ≡ true → new ≡ true)
      → (if is_satisfied (change w) then 0 else length (change w).groups) ≤ (if is_satisfied w then 0 else length w.groups)
  left_by old true w before now kept = rw now (omega arith)
  left_by true false w before now kept = absurd (false≢true (kept refl))
  left_by false false w before now kept = rw (before, now) (omega (arith, keeps.count w))

  no_more_left : (ws : List Watch) → groups_left (map change ws) ≤ groups_left ws
  no_more_left = sum_by-map_le (λ (w : Watch). if is_satisfied w then 0 else length w.groups) change (λ w. left_by (is_satisfied w) (is_satisfied (change w)) w refl refl (keeps.satisfied w))

-- the book stays one
pub book_after : (b : DependLists) (g : GraphLists) → IsBook b → IsKept b.graph.depends g.depends → length g.done ≡ length b.graph.done → IsBook (with_graph b g)
book_after b g book kept as_many =
    let numbers = ap (map watch_number) kept.is ∙ map-map_kept watch_number kept.change kept.keeps.number b.graph.depends in
    let left : groups_left g.depends ≤ groups_left b.graph.depends =
    subst (λ (ws : List Watch). groups_left ws ≤ groups_left b.graph.depends) (sym kept.is) (no_more_left kept.change kept.keeps b.graph.depends) in
    record {
      flags = as_many ∙ book.flags;
      numbers = keys_of_rows b.rows g.depends ∙ book.numbers ∙ sym numbers;
      rows_are = rows_twice b.rows g.depends;
      rise = rows_rise b.rows g.depends 1 b.next book.rise;
      next_within = book.next_within;
      count = omega (arith, length_of_rows b.rows g.depends, book.count);
      groups_within = omega (arith, left, book.groups_within);
    }

-- as many flags as before
pub as_many_flags : (g : GraphLists) (slot : ℕ) (done : Bool) → length (with_done g slot done).done ≡ length g.done
as_many_flags g slot true = length-set g.done slot true
as_many_flags g slot false = length-set g.done slot false
