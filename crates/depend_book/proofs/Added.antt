-- One depend more at the end of the book.
use Rattle.std.proofs.Common.{◌≡◌, ℕ, ◌+◌, ◌≤◌, Bool, true, false, List, [], ◌∷◌, ◌++◌, map, length, eqb, refl, sym, ap, ◌∙◌, length-append, arith}
use Rattle.std.specs.Prelude.{if◌then◌else◌}
use Rattle.std.specs.List.{list_all, list_any}
use Rattle.std.proofs.lemmas.Bool.{ne_eqb}
use Rattle.std.proofs.lemmas.List.{length-map, map-append}
use Rattle.std.proofs.lemmas.List.Folds.{list_all-map}
use Rattle.std.proofs.lemmas.List.Sums.{sum_by-append, sum_by-cons}
use Rattle.farm_types.specs.declared.depend.DependRow.{DependRow}
use Rattle.farm_types.specs.Depends.{are_done}
use Rattle.farm_types.specs.Rising.{IsRising, depend_key}
use Rattle.depend_graph.specs.Graph.{CanAdd as GraphCanAdd, Watch, groups_left, is_flagged, is_met, is_satisfied, watch_of, watched}
use Rattle.depend_book.specs.declared.new_depend.NewDepend.{NewDepend}
use Rattle.depend_book.specs.Rows.{RowLists, with_row}
use Rattle.depend_book.specs.Book.{CanAdd, DependLists, IsBook, added_row, row_of, rows_of, watch_number, with_new}

-- ---- numbers

-- they end no lower than they begin
pub ends_above : (rows : List DependRow) (low high : ℕ) → IsRising depend_key low rows high → low ≤ high
ends_above [] low high rise = rise
ends_above (d ∷ ds) low high rise = omega (arith, rise.0, ends_above ds (d.depend + 1) high rise.1)

-- one more at the end
pub rising_more : (rows : List DependRow) (low high : ℕ) (d : DependRow) → IsRising depend_key low rows high → d.depend ≡ high → IsRising depend_key low (rows ++ d ∷ []) (high + 1)
rising_more [] low high d rise is = (omega (arith, rise, is), omega (arith, is))
rising_more (r ∷ rs) low high d rise is = (rise.0, rising_more rs (r.depend + 1) high d rise.1 is)

-- a number past all is none of theirs
pub new_number : (rows : List DependRow) (ws : List Watch) (low high n : ℕ) → map depend_key rows ≡ map watch_number ws → IsRising depend_key low rows high → high ≤ n
    → list_any (λ (w : Watch). eqb w.depend n) ws ≡ false
new_number rows [] low high n same rise above = refl
new_number [] (w ∷ ws) low high n same rise above = cc
new_number (d ∷ ds) (w ∷ ws) low high n same rise above =
    let first : d.depend ≡ w.depend = cc in
    let rest : map depend_key ds ≡ map watch_number ws = cc in
    let ends = ends_above ds (d.depend + 1) high rise.1 in
    let apart : eqb w.depend n ≡ false = ne_eqb w.depend n (λ e. absurd (omega (arith, ends, first, e, above))) in
    rw apart (new_number ds ws (d.depend + 1) high n rest rise.1 above)

-- ---- rows and groups

pub rows_more : (rows : List DependRow) (ws : List Watch) (d : DependRow) (w : Watch) → rows_of rows ws ≡ rows → map depend_key rows ≡ map watch_number ws → row_of d w ≡ d
    → rows_of (rows ++ d ∷ []) (ws ++ w ∷ []) ≡ rows ++ d ∷ []
rows_more [] [] d w are same is = ap (λ (r : DependRow). r ∷ []) is
rows_more [] (v ∷ vs) d w are same is = cc
rows_more (r ∷ rs) [] d w are same is = cc
rows_more (r ∷ rs) (v ∷ vs) d w are same is =
    let first : row_of r v ≡ r = cc in
    let rest : rows_of rs vs ≡ rs = cc in
    let keys : map depend_key rs ≡ map watch_number vs = cc in
    let more = rows_more rs vs d w rest keys is in
    λ j. first j ∷ more j

abbrev left_in : Watch → ℕ
left_in w = if is_satisfied w then 0 else length w.groups

left_in_within : (b : Bool) (w : Watch) → is_satisfied w ≡ b → left_in w ≤ length w.groups
left_in_within true w is = rw is (omega arith)
left_in_within false w is = rw is (omega arith)

pub left_more : (ws : List Watch) (w : Watch) → groups_left (ws ++ w ∷ []) ≤ groups_left ws + length w.groups
left_more ws w =
    let all = sum_by-append left_in ws (w ∷ []) in
    let one = sum_by-cons left_in w [] in
    omega (arith, all, one, left_in_within (is_satisfied w) w refl)

-- The row of the new depend says whether each of its groups is met at once. The book is seen as `seen`.
pub rows_added : (b seen : DependLists) (n : NewDepend) (met_all : Bool) → b ≡ seen → met_all ≡ list_all (are_done (is_flagged seen.graph.done)) n.groups
    → b.rows ++ added_row b.next n met_all ∷ [] ≡ (with_new b n).rows
rows_added b seen n met_all same met =
    let here = ap (λ (lists : DependLists). list_all (are_done (is_flagged lists.graph.done)) n.groups) (sym same) in
    let all = sym (list_all-map is_met (watched b.graph.done) n.groups) in
    ap (λ (satisfied : Bool). b.rows ++ added_row b.next n satisfied ∷ []) (met ∙ here ∙ all)

-- the row that is put at the end of the list is the new depend's
pub rows_pushed : (b seen : DependLists) (n : NewDepend) (next : ℕ) (met_all : Bool) (new : RowLists) → b ≡ seen → next ≡ b.next → met_all ≡ list_all (are_done (is_flagged seen.graph.done)) n.groups
    → new ≡ with_row (record { rows = b.rows; next = b.next }) (added_row next n met_all) → (new.rows ≡ (with_new b n).rows) × (new.next ≡ b.next + 1)
rows_pushed b seen n next met_all new same at met is = (
  ap (λ (r : RowLists). r.rows) is ∙ (ap (λ (m : ℕ). b.rows ++ added_row m n met_all ∷ []) at ∙ rows_added b seen n met_all same met),
  ap (λ (r : RowLists). r.next) is,
)

-- ---- the book

module _ (b : DependLists) (n : NewDepend) (book : IsBook b) (can : CanAdd b n) where
  -- the depend fits into the graph
  pub graph_can_add : GraphCanAdd b.graph b.next n.groups
  graph_can_add =
      let long : length b.rows ≡ length b.graph.depends = sym (length-map b.rows depend_key) ∙ ap length book.numbers ∙ length-map b.graph.depends watch_number in
      record {
        new = new_number b.rows b.graph.depends 1 b.next b.next book.numbers book.rise (omega arith);
        room = omega (arith, can.room, long);
        groups_within = can.groups_within;
        each = can.each;
      }

  -- with it the book is one
  pub book_added : IsBook (with_new b n)
  book_added =
      let ws = b.graph.depends in
      let w = watch_of b.graph.done b.next n.groups in
      let d = added_row b.next n (is_satisfied w) in
      let groups : length w.groups ≡ length n.groups = length-map n.groups (watched b.graph.done) in
      record {
        flags = book.flags;
        numbers = map-append depend_key b.rows (d ∷ []) ∙ ap (λ (keys : List ℕ). keys ++ b.next ∷ []) book.numbers ∙ sym (map-append watch_number ws (w ∷ []));
        rows_are = rows_more b.rows ws d w book.rows_are book.numbers refl;
        rise = rising_more b.rows 1 b.next d book.rise refl;
        next_within = omega (arith, can.number_left);
        count = omega (arith, can.room, length-append b.rows (d ∷ []));
        groups_within = omega (arith, can.groups_within, left_more ws w, groups);
      }
