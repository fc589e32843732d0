-- The marks of a book after groups are met, and after a depend is dropped.
use Rattle.std.proofs.Common.{◌≡◌, ℕ, Bool, true, false, not, cond, eqb, ◌&&◌, ◌||◌, List, [], ◌∷◌, map, Some, option_map, refl, sym, ap, ◌∙◌}
use Rattle.std.specs.List.{find, list_all, list_any}
use Rattle.std.proofs.lemmas.Bool.{eqb-true, eq-eqb, ne_eqb, false≢true, true≢false}
use Rattle.std.proofs.lemmas.List.{length-map}
use Rattle.farm_types.specs.declared.depend.DependRow.{DependRow}
use Rattle.farm_types.specs.Rising.{depend_key}
use Rattle.farm_rows.specs.declared.farm_row.FarmRow.TheVariants as row
use Rattle.depend_graph.specs.declared.trials.marks.Marks.{Marks}
use Rattle.depend_graph.specs.Graph.{HasMet, Watch, Watched, groups_at, is_mark, is_met, met_between, met_group, met_where, was_met, was_satisfied, with_all_done}
use Rattle.depend_book.specs.Book.{DependLists, IsBook, all_done_in, dropped_in, mark_of, marks_of, row_in, row_of, rows_of, watch_number}
use Rattle.depend_book.proofs.MarkedAt.{AreNumbered, marks_at, numbered_book, said_at}
use Rattle.depend_book.proofs.Satisfied.{Keeps, marked_by, rows_marked}
use Rattle.farm_depends.proofs.BookChanges.{all_done_is}
use Rattle.farm_depends.proofs.RowLemmas.DependRows.{MarksChange, has_position, row_with}
use Rattle.farm_depends.proofs.CompletionLemmas.Flags.{depends_after, met_stays, watch_after, watched_after}
use Rattle.depend_book.proofs.Zips.{same_head, same_tail, nil-cons}

-- ---- one list of groups

abbrev any_at : ℕ → List Watched → Bool
any_at p gs = list_any (λ (x : Watched). x.met && eqb x.group.position p) gs

abbrev place_at : ℕ → List Watched → Bool
place_at p gs = list_any (λ (x : Watched). eqb x.group.position p) gs

-- there is a mark at the position, where not all groups are met
abbrev mark_in : ℕ → List Watched → Bool
mark_in p gs = not (list_all is_met gs) && any_at p gs

or_true : (b : Bool) → (b || true) ≡ true
or_true true = refl
or_true false = refl

any_stands : (p : ℕ) (gs : List Watched) → any_at p gs ≡ true → place_at p gs ≡ true
any_stands p [] h = h
any_stands p (x ∷ xs) h = by x.met (eqb x.group.position p) (any_stands p xs) h
  where
    by : (m e : Bool) → (any_at p xs ≡ true → place_at p xs ≡ true) → ((m && e) || any_at p xs) ≡ true → (e || place_at p xs) ≡ true
    by m true more h = refl
    by true false more h = more h
    by false false more h = more h

module _ (become : Watched → Watched) (same : (x : Watched) → (become x).group ≡ x.group) (stays : (x : Watched) → x.met ≡ true → (become x).met ≡ true) (p : ℕ) where
  met_stands : (gs : List Watched) → met_between p gs (map become gs) ≡ true → place_at p gs ≡ true
  met_stands [] h = h
  met_stands (x ∷ xs) h = by (eqb x.group.position p) (not x.met && (become x).met) (met_stands xs) h
    where
      by : (e m : Bool) → (met_between p xs (map become xs) ≡ true → place_at p xs ≡ true) → cond (e && m) true (met_between p xs (map become xs)) ≡ true → (e || place_at p xs) ≡ true
      by true m more h = refl
      by false m more h = more h

  all_stay : (gs : List Watched) → list_all is_met gs ≡ true → list_all is_met (map become gs) ≡ true
  all_stay [] h = refl
  all_stay (x ∷ xs) h = by x.met (become x).met (stays x) (all_stay xs) h
    where
      by : (m n : Bool) → (m ≡ true → n ≡ true) → (list_all is_met xs ≡ true → list_all is_met (map become xs) ≡ true) → (m && list_all is_met xs) ≡ true → (n && list_all is_met (map become xs)) ≡ true
      by true true kept more h = more h
      by true false kept more h = absurd (false≢true (kept refl))
      by false n kept more h = absurd (false≢true h)

  none_met : (gs : List Watched) → list_all is_met gs ≡ true → met_between p gs (map become gs) ≡ false
  none_met [] h = refl
  none_met (x ∷ xs) h = by (eqb x.group.position p) x.met (none_met xs) h
    where
      by : (e m : Bool) → (list_all is_met xs ≡ true → met_between p xs (map become xs) ≡ false) → (m && list_all is_met xs) ≡ true → cond (e && (not m && (become x).met)) true (met_between p xs (map become xs)) ≡ false
      by true true more h = more h
      by false true more h = more h
      by e false more h = absurd (false≢true h)

  any_grows : (gs : List Watched) → any_at p (map become gs) ≡ (any_at p gs || met_between p gs (map become gs))
  any_grows [] = refl
  any_grows (x ∷ xs) =
      ap (λ (k : ℕ). ((become x).met && eqb k p) || any_at p (map become xs)) (ap (λ g. g.position) (same x))
      ∙ (ap (λ (b : Bool). ((become x).met && eqb x.group.position p) || b) (any_grows xs) ∙ by x.met (become x).met (eqb x.group.position p) (any_at p xs) (met_between p xs (map become xs)) (stays x))
    where
      by : (m n e a r : Bool) → (m ≡ true → n ≡ true) → ((n && e) || (a || r)) ≡ (((m && e) || a) || cond (e && (not m && n)) true r)
      by true true true a r kept = refl
      by true true false a r kept = refl
      by true false e a r kept = absurd (false≢true (kept refl))
      by false true true true r kept = refl
      by false true true false r kept = refl
      by false true false a r kept = refl
      by false false true a r kept = refl
      by false false false a r kept = refl

  mark_by : (all now was met stands : Bool) → (was ≡ true → stands ≡ true) → (met ≡ true → stands ≡ true) → (all ≡ true → now ≡ true) → (all ≡ true → met ≡ false)
      → (not now && (was || met)) ≡ ((met || (not all && was)) && not ((not all && now) && stands))
  mark_by true false was met stands placed placed_met kept none = absurd (false≢true (kept refl))
  mark_by true true was true stands placed placed_met kept none = absurd (true≢false (none refl))
  mark_by true true was false stands placed placed_met kept none = refl
  mark_by false true true true true placed placed_met kept none = refl
  mark_by false true true false true placed placed_met kept none = refl
  mark_by false true false true true placed placed_met kept none = refl
  mark_by false true false false true placed placed_met kept none = refl
  mark_by false true true met false placed placed_met kept none = absurd (false≢true (placed refl))
  mark_by false true false true false placed placed_met kept none = absurd (false≢true (placed_met refl))
  mark_by false true false false false placed placed_met kept none = refl
  mark_by false false true true stands placed placed_met kept none = refl
  mark_by false false true false stands placed placed_met kept none = refl
  mark_by false false false true stands placed placed_met kept none = refl
  mark_by false false false false stands placed placed_met kept none = refl

  mark_then : (gs : List Watched) → mark_in p (map become gs)
      ≡ ((met_between p gs (map become gs) || mark_in p gs) && not ((not (list_all is_met gs) && list_all is_met (map become gs)) && place_at p gs))
  mark_then gs =
      ap (λ (b : Bool). not (list_all is_met (map become gs)) && b) (any_grows gs)
      ∙ mark_by (list_all is_met gs) (list_all is_met (map become gs)) (any_at p gs) (met_between p gs (map become gs)) (place_at p gs) (any_stands p gs) (met_stands gs) (all_stay gs) (none_met gs)

-- ---- the groups of one depend among all

places_of : (n p : ℕ) (gs : List Watched) → list_any (is_mark n p) (map (mark_of n) gs) ≡ place_at p gs
places_of n p [] = refl
places_of n p (x ∷ xs) = λ i. (eq-eqb n n refl i && eqb x.group.position p) || places_of n p xs i

positions_at : (b : DependLists) (n p : ℕ) → has_position b n p ≡ place_at p (groups_at b.graph.depends n)
positions_at b n p = places_of n p (groups_at b.graph.depends n)

-- ---- a change of each depend's groups

module _ (become : Watched → Watched) where
  abbrev change : Watch → Watch
  change w = record w { groups = map become w.groups }

  groups_then : (ws : List Watch) (n : ℕ) → groups_at (map change ws) n ≡ map become (groups_at ws n)
  groups_then [] n = refl
  groups_then (w ∷ ws) n = by (eqb w.depend n) (groups_then ws n)
    where
      by : (b : Bool) → groups_at (map change ws) n ≡ map become (groups_at ws n) → cond b (map become w.groups) (groups_at (map change ws) n) ≡ map become (cond b w.groups (groups_at ws n))
      by true more = refl
      by false more = more

  -- the depend of the number is the only one
  said_of : (n p : ℕ) (ws : List Watch) → was_met ws (map change ws) n p ≡ list_any (λ (w : Watch). eqb w.depend n && met_between p w.groups (map become w.groups)) ws
  said_of n p [] = refl
  said_of n p (w ∷ ws) = by (eqb w.depend n && met_between p w.groups (map become w.groups)) (said_of n p ws)
    where
      by : (b : Bool) → was_met ws (map change ws) n p ≡ list_any (λ (v : Watch). eqb v.depend n && met_between p v.groups (map become v.groups)) ws
          → cond b true (was_met ws (map change ws) n p) ≡ (b || list_any (λ (v : Watch). eqb v.depend n && met_between p v.groups (map become v.groups)) ws)
      by true more = refl
      by false more = more

  met_at : (n p : ℕ) (ws : List Watch) → AreNumbered 1 ws → was_met ws (map change ws) n p ≡ met_between p (groups_at ws n) (map become (groups_at ws n))
  met_at n p ws k =
      said_of n p ws
      ∙ said_at (λ m (w : Watch). eqb w.depend m && met_between p w.groups (map become w.groups)) (λ gs. met_between p gs (map become gs)) n (λ w. refl) refl 1 ws k

  abbrev satisfies : List Watched → Bool
  satisfies gs = not (list_all is_met gs) && list_all is_met (map become gs)

  satisfied_of : (n : ℕ) (ws : List Watch) → was_satisfied ws (map change ws) n ≡ list_any (λ (w : Watch). eqb w.depend n && satisfies w.groups) ws
  satisfied_of n [] = refl
  satisfied_of n (w ∷ ws) = by (eqb w.depend n && satisfies w.groups) (satisfied_of n ws)
    where
      by : (b : Bool) → was_satisfied ws (map change ws) n ≡ list_any (λ (v : Watch). eqb v.depend n && satisfies v.groups) ws
          → cond b true (was_satisfied ws (map change ws) n) ≡ (b || list_any (λ (v : Watch). eqb v.depend n && satisfies v.groups) ws)
      by true more = refl
      by false more = more

  satisfied_at : (n : ℕ) (ws : List Watch) → AreNumbered 1 ws → was_satisfied ws (map change ws) n ≡ satisfies (groups_at ws n)
  satisfied_at n ws k = satisfied_of n ws ∙ said_at (λ m (w : Watch). eqb w.depend m && satisfies w.groups) satisfies n (λ w. refl) refl 1 ws k

-- ---- rows

-- a row that is marked keeps its number
found_marked : (ns : List ℕ) (n : ℕ) (rows : List DependRow) → option_map row.Depend (find (λ (d : DependRow). eqb d.depend n) (map (marked_by ns) rows)) ≡ row_with (list_any (λ m. eqb m n) ns) (find (λ (d : DependRow). eqb d.depend n) rows)
found_marked ns n [] = refl
found_marked ns n (d ∷ ds) = by (eqb d.depend n) refl (found_marked ns n ds)
  where
    number : (b : Bool) → (cond b (record d { met_all = true }) d).depend ≡ d.depend
    number true = refl
    number false = refl

    by : (b : Bool) → eqb d.depend n ≡ b
        → option_map row.Depend (find (λ (e : DependRow). eqb e.depend n) (map (marked_by ns) ds)) ≡ row_with (list_any (λ m. eqb m n) ns) (find (λ (e : DependRow). eqb e.depend n) ds)
        → option_map row.Depend (cond (eqb (marked_by ns d).depend n) (Some (marked_by ns d)) (find (λ (e : DependRow). eqb e.depend n) (map (marked_by ns) ds)))
        ≡ row_with (list_any (λ m. eqb m n) ns) (cond (eqb d.depend n) (Some d) (find (λ (e : DependRow). eqb e.depend n) ds))
    by true is more =
        ap (λ (b : Bool). option_map row.Depend (cond b (Some (marked_by ns d)) (find (λ (e : DependRow). eqb e.depend n) (map (marked_by ns) ds))))
        (ap (λ (k : ℕ). eqb k n) (number (list_any (λ m. eqb m d.depend) ns)) ∙ is)
        ∙ (ap (λ (k : ℕ). Some (row.Depend (cond (list_any (λ m. eqb m k) ns) (record d { met_all = true }) d))) (eqb-true d.depend n is)
        ∙ sym (ap (λ (b : Bool). row_with (list_any (λ m. eqb m n) ns) (cond b (Some d) (find (λ (e : DependRow). eqb e.depend n) ds))) is))
    by false is more =
        ap (λ (b : Bool). option_map row.Depend (cond b (Some (marked_by ns d)) (find (λ (e : DependRow). eqb e.depend n) (map (marked_by ns) ds))))
        (ap (λ (k : ℕ). eqb k n) (number (list_any (λ m. eqb m d.depend) ns)) ∙ is)
        ∙ (more ∙ sym (ap (λ (b : Bool). row_with (list_any (λ m. eqb m n) ns) (cond b (Some d) (find (λ (e : DependRow). eqb e.depend n) ds))) is))

-- ---- frames are done

module _ (b : DependLists) (book : IsBook b) (done : List ℕ) (marks : Marks) (has : HasMet b.graph.depends (with_all_done b.graph done).depends marks) where
  abbrev olds : List Watch
  olds = b.graph.depends

  abbrev become : Watched → Watched
  become = watched_after b.graph.done done

  news : (with_all_done b.graph done).depends ≡ map (watch_after b.graph.done done) olds
  news = depends_after b.graph done

  kept : (x : Watched) → x.met ≡ true → (become x).met ≡ true
  kept x was = met_stays b.graph.done done x.group x.met was

  keeps : Keeps (watch_after b.graph.done done)
  keeps = record { number = λ w. refl; satisfied = λ w all. all_stay become (λ x. refl) kept 0 w.groups all; count = λ w. length-map w.groups become }

  k : AreNumbered 1 olds
  k = numbered_book b book

  rows_then : rows_of b.rows (with_all_done b.graph done).depends ≡ map (marked_by marks.satisfied) b.rows
  rows_then =
      ap (rows_of b.rows) news
      ∙ sym (rows_marked (watch_after b.graph.done done) keeps marks.satisfied b.rows olds 1 b.next book.rise book.rows_are book.numbers
      (λ n low. has.satisfied n ∙ ap (λ (vs : List Watch). was_satisfied olds vs n) news))

  numbers_same : (vs : List Watch) → map watch_number (map (watch_after b.graph.done done) vs) ≡ map watch_number vs
  numbers_same [] = refl
  numbers_same (v ∷ vs) = ap (λ (ns : List ℕ). v.depend ∷ ns) (numbers_same vs)

  pub done_changes : MarksChange b (all_done_in b done) marks
  done_changes =
      record {
        rows = λ n.
            ap (λ (c : DependLists). option_map row.Depend (row_in c n)) (all_done_is b done book)
            ∙ (ap (λ (ds : List DependRow). option_map row.Depend (find (λ (d : DependRow). eqb d.depend n) ds)) rows_then ∙ found_marked marks.satisfied n b.rows);
        met = λ n p.
            let gs = groups_at olds n in
            let now : list_any (is_mark n p) (marks_of (all_done_in b done).graph.depends) ≡ mark_in p (map become gs) =
            ap (λ (c : DependLists). list_any (is_mark n p) (marks_of c.graph.depends)) (all_done_is b done book)
            ∙ (ap (λ (vs : List Watch). list_any (is_mark n p) (marks_of vs)) news
            ∙ (marks_at n p (map (watch_after b.graph.done done) olds) numbered_then ∙ ap (mark_in p) (groups_then become olds n))) in
            let met : list_any (is_mark n p) marks.met ≡ met_between p gs (map become gs) = has.met n p ∙ (ap (λ (vs : List Watch). was_met olds vs n p) news ∙ met_at become n p olds k) in
            let satisfied : list_any (λ m. eqb m n) marks.satisfied ≡ (not (list_all is_met gs) && list_all is_met (map become gs)) =
            has.satisfied n ∙ (ap (λ (vs : List Watch). was_satisfied olds vs n) news ∙ satisfied_at become n olds k) in
            now
            ∙ (mark_then become (λ x. refl) kept p gs
            ∙ λ i. (sym met i || sym (marks_at n p olds k) i) && not (sym satisfied i && sym (positions_at b n p) i));
      }
    where
      numbered_then : AreNumbered 1 (map (watch_after b.graph.done done) olds)
      numbered_then = record { rows = b.rows; high = b.next; rise = book.rise; numbers = book.numbers ∙ sym (numbers_same olds) }

-- ---- a depend is dropped

all_met : (gs : List Watched) → list_all is_met (map met_group gs) ≡ true
all_met [] = refl
all_met (x ∷ xs) = all_met xs

abbrev met_by : Bool → List Watched → List Watched
met_by b gs = cond b (map met_group gs) gs

dropped_groups : (n m : ℕ) (ws : List Watch) → groups_at (map (met_where n) ws) m ≡ met_by (eqb m n) (groups_at ws m)
dropped_groups n m [] = by (eqb m n) where
  by : (b : Bool) → [] ≡ met_by b []
  by true = refl
  by false = refl
dropped_groups n m (w ∷ ws) = by (eqb w.depend n) refl (eqb w.depend m) refl (dropped_groups n m ws)
  where
    by : (a : Bool) → eqb w.depend n ≡ a → (c : Bool) → eqb w.depend m ≡ c → groups_at (map (met_where n) ws) m ≡ met_by (eqb m n) (groups_at ws m)
        → groups_at (cond a (record w { groups = map met_group w.groups }) w ∷ map (met_where n) ws) m ≡ met_by (eqb m n) (cond c w.groups (groups_at ws m))
    by true is true here more =
        let same : m ≡ n = sym (eqb-true w.depend m here) ∙ eqb-true w.depend n is in
        ap (λ (b : Bool). cond b (map met_group w.groups) (groups_at (map (met_where n) ws) m)) here ∙ sym (ap (λ (b : Bool). met_by b w.groups) (eq-eqb m n same))
    by false is true here more =
        let apart : eqb m n ≡ false = ap (λ (i : ℕ). eqb i n) (sym (eqb-true w.depend m here)) ∙ is in
        ap (λ (b : Bool). cond b w.groups (groups_at (map (met_where n) ws) m)) here ∙ sym (ap (λ (b : Bool). met_by b w.groups) apart)
    by true is false here more = ap (λ (b : Bool). cond b (map met_group w.groups) (groups_at (map (met_where n) ws) m)) here ∙ more
    by false is false here more = ap (λ (b : Bool). cond b w.groups (groups_at (map (met_where n) ws) m)) here ∙ more

row_dropped : (n : ℕ) (d : DependRow) (w : Watch) → row_of d w ≡ d → d.depend ≡ w.depend → row_of d (met_where n w) ≡ marked_by (n ∷ []) d
row_dropped n d w is same = by (eqb w.depend n) refl
  where
    swapped : (b : Bool) → eqb w.depend n ≡ b → (eqb n d.depend || false) ≡ b
    swapped true e = ap (λ (c : Bool). c || false) (eq-eqb n d.depend (sym (same ∙ eqb-true w.depend n e)))
    swapped false e = ap (λ (c : Bool). c || false) (ne_eqb n d.depend (λ h. true≢false (sym (eq-eqb w.depend n (sym same ∙ sym h)) ∙ e)))

    by : (b : Bool) → eqb w.depend n ≡ b → row_of d (cond (eqb w.depend n) (record w { groups = map met_group w.groups }) w) ≡ cond (eqb n d.depend || false) (record d { met_all = true }) d
    by true e =
        ap (λ (c : Bool). row_of d (cond c (record w { groups = map met_group w.groups }) w)) e
        ∙ (ap (λ (c : Bool). record d { met_all = c }) (all_met w.groups) ∙ sym (ap (λ (c : Bool). cond c (record d { met_all = true }) d) (swapped true e)))
    by false e =
        ap (λ (c : Bool). row_of d (cond c (record w { groups = map met_group w.groups }) w)) e
        ∙ (is ∙ sym (ap (λ (c : Bool). cond c (record d { met_all = true }) d) (swapped false e)))

rows_dropped : (n : ℕ) (ds : List DependRow) (ws : List Watch) → map depend_key ds ≡ map watch_number ws → rows_of ds ws ≡ ds → rows_of ds (map (met_where n) ws) ≡ map (marked_by (n ∷ [])) ds
rows_dropped n [] ws numbers rows = refl
rows_dropped n (d ∷ ds) [] numbers rows = absurd (nil-cons d.depend (map depend_key ds) (sym numbers))
rows_dropped n (d ∷ ds) (w ∷ ws) numbers rows =
    let number = same_head d.depend w.depend (map depend_key ds) (map watch_number ws) numbers in
    let later = same_tail d.depend w.depend (map depend_key ds) (map watch_number ws) numbers in
    λ i. row_dropped n d w (same_head (row_of d w) d (rows_of ds ws) ds rows) number i ∷ rows_dropped n ds ws later (same_tail (row_of d w) d (rows_of ds ws) ds rows) i

module _ (b : DependLists) (book : IsBook b) (n : ℕ) where
  abbrev pub dropping : Marks
  dropping = record { met = []; satisfied = n ∷ [] }

  numbers_stay : (vs : List Watch) → map watch_number (map (met_where n) vs) ≡ map watch_number vs
  numbers_stay [] = refl
  numbers_stay (v ∷ vs) = λ i. by (eqb v.depend n) i ∷ numbers_stay vs i
    where
      by : (c : Bool) → (cond c (record v { groups = map met_group v.groups }) v).depend ≡ v.depend
      by true = refl
      by false = refl

  mark_dropped : (p : ℕ) (gs : List Watched) (t : Bool) → mark_in p (met_by t gs) ≡ (mark_in p gs && not ((t || false) && place_at p gs))
  mark_dropped p gs true = ap (λ (c : Bool). not c && any_at p (map met_group gs)) (all_met gs) ∙ by (not (list_all is_met gs)) (any_at p gs) (place_at p gs) (any_stands p gs)
    where
      by : (open_too a q : Bool) → (a ≡ true → q ≡ true) → false ≡ ((open_too && a) && not q)
      by true true true placed = refl
      by true true false placed = absurd (false≢true (placed refl))
      by true false q placed = refl
      by false a q placed = refl
  mark_dropped p gs false = sym (and_true (mark_in p gs))
    where
      and_true : (c : Bool) → (c && true) ≡ c
      and_true true = refl
      and_true false = refl

  swap : (m : ℕ) → eqb m n ≡ eqb n m
  swap m = by (eqb n m) refl
    where
      by : (c : Bool) → eqb n m ≡ c → eqb m n ≡ c
      by true e = eq-eqb m n (sym (eqb-true n m e))
      by false e = ne_eqb m n (λ h. true≢false (sym (eq-eqb n m (sym h)) ∙ e))

  pub dropped_changes : MarksChange b (dropped_in b n) dropping
  dropped_changes =
      record {
        rows = λ m.
            ap (λ (ds : List DependRow). option_map row.Depend (find (λ (d : DependRow). eqb d.depend m) ds)) (rows_dropped n b.rows b.graph.depends book.numbers book.rows_are) ∙ found_marked (n ∷ []) m b.rows;
        met = λ m p.
            marks_at m p (map (met_where n) b.graph.depends) (record { rows = b.rows; high = b.next; rise = book.rise; numbers = book.numbers ∙ sym (numbers_stay b.graph.depends) })
            ∙ (ap (mark_in p) (dropped_groups n m b.graph.depends)
            ∙ (mark_dropped p (groups_at b.graph.depends m) (eqb m n)
            ∙ λ i. sym (marks_at m p b.graph.depends (numbered_book b book)) i && not ((swap m i || false) && sym (positions_at b m p) i)));
      }
