-- One depend more at the end of the book, put back as it was kept.
use Rattle.std.proofs.Common.{◌≡◌, ℕ, ◌+◌, ◌≤◌, Bool, List, [], ◌∷◌, ◌++◌, map, length, sym, ap, ◌∙◌, length-append, arith}
use Rattle.std.proofs.lemmas.List.{length-map, map-append}
use Rattle.farm_types.specs.declared.depend.DependRow.{DependRow}
use Rattle.farm_types.specs.declared.depend.Group.{Group}
use Rattle.farm_types.specs.declared.limits.TheConstants.{LAST_DEPEND}
use Rattle.farm_types.specs.Rising.{IsRising, depend_key}
use Rattle.depend_graph.specs.Graph.{CanAdd as GraphCanAdd, watched}
use Rattle.depend_graph.specs.Marked.{marked_watch}
use Rattle.depend_graph.proofs.ComingLemmas.AddedDepend.{watches_marked}
use Rattle.depend_book.specs.Book.{DependLists, IsBook, watch_number}
use Rattle.depend_book.specs.Restored.{CanRestore, skipped, with_restored}
use Rattle.depend_book.proofs.Added.{left_more, new_number, rising_more, rows_more}

-- keys that rise below a number rise below a greater one
pub rising_below : {X : Type 0} (key : X → ℕ) (xs : List X) (low high above : ℕ) → IsRising key low xs high → high ≤ above → IsRising key low xs above
rising_below key [] low high above rise more = omega (arith, rise, more)
rising_below key (x ∷ xs) low high above rise more = (rise.0, rising_below key xs (key x + 1) high above rise.1 more)

-- the next number is a later one
pub book_skipped : (b : DependLists) (next : ℕ) → IsBook b → b.next ≤ next → next ≤ LAST_DEPEND + 1 → IsBook (skipped b next)
book_skipped b next book above within =
    record {
      flags = book.flags;
      numbers = book.numbers;
      rows_are = book.rows_are;
      rise = rising_below depend_key b.rows 1 b.next next book.rise above;
      next_within = within;
      count = book.count;
      groups_within = book.groups_within;
    }

module _ (b : DependLists) (d : DependRow) (gs : List Group) (ms : List Bool) (book : IsBook b) (can : CanRestore b d gs ms) where
  -- the depend fits into the graph
  pub graph_can_restore : GraphCanAdd b.graph d.depend gs
  graph_can_restore =
      let long : length b.rows ≡ length b.graph.depends = sym (length-map b.rows depend_key) ∙ ap length book.numbers ∙ length-map b.graph.depends watch_number in
      record {
        new = new_number b.rows b.graph.depends 1 b.next d.depend book.numbers book.rise (omega (arith, can.number));
        room = omega (arith, can.room, long);
        groups_within = can.groups_within;
        each = can.each;
      }

  -- with it the book is one
  pub book_restored : IsBook (with_restored b d gs ms)
  book_restored =
      let ws = b.graph.depends in
      let w = marked_watch b.graph.done d.depend gs ms in
      let groups : length w.groups ≡ length gs = watches_marked (map (watched b.graph.done) gs) ms ∙ length-map gs (watched b.graph.done) in
      record {
        flags = book.flags;
        numbers = map-append depend_key b.rows (d ∷ []) ∙ ap (λ (keys : List ℕ). keys ++ d.depend ∷ []) book.numbers ∙ sym (map-append watch_number ws (w ∷ []));
        rows_are = rows_more b.rows ws d w book.rows_are book.numbers (λ i. record d { met_all = can.satisfied i });
        rise = rising_more b.rows 1 b.next d book.rise can.number;
        next_within = omega (arith, can.number_left);
        count = omega (arith, can.room, length-append b.rows (d ∷ []));
        groups_within = omega (arith, can.groups_within, left_more ws w, groups);
      }
