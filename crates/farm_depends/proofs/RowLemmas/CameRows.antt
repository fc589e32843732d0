-- The rows of depends that come.
use Rattle.std.proofs.Common.{◌≡◌, ℕ, ◌+◌, ◌≤◌, Bool, true, false, cond, eqb, ◌||◌, List, [], ◌∷◌, ◌++◌, map, Option, None, Some, option_map, is_some, refl, sym, ap, subst, ◌∙◌, arith}
use Rattle.std.specs.List.{filter, find, list_any}
use Rattle.std.specs.Option.{option_or}
use Rattle.std.proofs.lemmas.Bool.{eqb-true, ne_eqb, false≢true}
use Rattle.std.proofs.lemmas.List.Folds.{find-append, list_all-map, list_any-append}
use Rattle.farm_types.specs.declared.depend.DependRow.{DependRow}
use Rattle.farm_types.specs.declared.depend.MetRow.{MetRow}
use Rattle.farm_types.specs.Depends.{are_done}
use Rattle.farm_types.specs.Farm.{Farm}
use Rattle.farm_types.specs.Rising.{IsRising, depend_key}
use Rattle.farm_law.proofs.KeptJobsLists.{rising-append, rising_within}
use Rattle.farm_rows.specs.declared.farm_row.FarmRow.{FarmRow}
use Rattle.farm_rows.specs.declared.farm_row.FarmRow.TheVariants as row
use Rattle.farm_rows.specs.declared.row_change.RowChange.{RowChange}
use Rattle.farm_rows.specs.declared.row_key.RowKey.TheVariants as key
use Rattle.farm_rows.specs.Changes.{MakesRows, row_at}
use Rattle.farm_rows.proofs.MadeLists.{find-last, find-not_last}
use Rattle.farm_rows.proofs.MadeRows.{makes_then}
use Rattle.depend_graph.specs.Graph.{Watch, groups_at, is_flagged, is_mark, is_met, is_satisfied, watch_of, watched}
use Rattle.depend_graph.specs.Watches.{mark_for}
use Rattle.depend_book.specs.declared.new_depend.NewDepend.{NewDepend}
use Rattle.depend_book.specs.Book.{DependLists, added_row, joined, mark_of, marks_in, marks_of, row_in, with_new}
use Rattle.farm_depends.specs.Follow.{with_new_all}
use Rattle.farm_depends.specs.FollowRows.{all_coming_rows, are_met_at_once, coming_rows, delete_mark, once_marks, put_depend, put_mark, put_satisfied, satisfied_rows}
use Rattle.farm_depends.proofs.ComingLemmas.Added.{marks_more}
use Rattle.farm_depends.proofs.RowLemmas.DependRows.{leaves_depend, leaves_put, leaves_then, mark_row, marks_put, put_apart}
use Rattle.depend_book.proofs.Zips.{filter-map, map_in_turn}

-- no row has the next number
none_above : (low : ℕ) (rows : List DependRow) (high n : ℕ) → IsRising depend_key low rows high → high ≤ n → find (λ (d : DependRow). eqb d.depend n) rows ≡ None
none_above low [] high n rise above = refl
none_above low (d ∷ ds) high n rise above =
    let within = rising_within depend_key (d.depend + 1) ds high rise.1 in
    let apart : eqb d.depend n ≡ false = ne_eqb d.depend n (λ e. absurd (omega (arith, within, above, e))) in
    ap (λ (b : Bool). cond b (Some d) (find (λ (e : DependRow). eqb e.depend n) ds)) apart ∙ none_above (d.depend + 1) ds high n rise.1 above

module _ (f : Farm) (b : DependLists) (n : NewDepend) (rise : IsRising depend_key 1 b.rows b.next) where
  abbrev flags : List Bool
  flags = b.graph.done

  abbrev new_watch : Watch
  new_watch = watch_of flags b.next n.groups

  abbrev added : DependRow
  added = added_row b.next n (is_satisfied new_watch)

  all_is : are_met_at_once flags n.groups ≡ is_satisfied new_watch
  all_is = sym (list_all-map is_met (watched flags) n.groups)

  own : once_marks flags b.next n.groups ≡ map (mark_of b.next) (filter is_met (map (watched flags) n.groups))
  own =
      sym (ap (map (mark_of b.next)) (filter-map (watched flags) is_met (are_done (is_flagged flags)) n.groups (λ k g at. refl))
      ∙ map_in_turn (mark_of b.next) (watched flags) (mark_for b.next) (λ g. refl) (filter (are_done (is_flagged flags)) n.groups))

  put_by : (c : Bool) (xs ys : List MetRow) → xs ≡ ys → cond c [] (map put_mark xs) ≡ map put_mark (cond c [] ys)
  put_by true xs ys same = refl
  put_by false xs ys same = ap (map put_mark) same

  marks_are : cond (are_met_at_once flags n.groups) [] (map put_mark (once_marks flags b.next n.groups)) ≡ map put_mark (marks_in new_watch)
  marks_are =
      put_by (are_met_at_once flags n.groups) (once_marks flags b.next n.groups) (map (mark_of b.next) (filter is_met (map (watched flags) n.groups))) own
      ∙ ap (λ (c : Bool). map put_mark (cond c [] (map (mark_of b.next) (filter is_met (map (watched flags) n.groups))))) all_is

  coming_is : coming_rows flags b.next n ≡ put_depend added ∷ map put_mark (marks_in new_watch)
  coming_is = λ i. put_depend (added_row b.next n (all_is i)) ∷ marks_are i

  none_new : find (λ (d : DependRow). eqb d.depend b.next) b.rows ≡ None
  none_new = none_above 1 b.rows b.next b.next rise (omega arith)

  row_by : (m : ℕ) (c : Bool) → eqb b.next m ≡ c
      → option_map row.Depend (find (λ (d : DependRow). eqb d.depend m) (b.rows ++ added ∷ [])) ≡ cond (eqb b.next m) (Some (row.Depend added)) (option_map row.Depend (find (λ (d : DependRow). eqb d.depend m) b.rows))
  row_by m true is =
      let none : find (λ (d : DependRow). eqb d.depend m) b.rows ≡ None = ap (λ (k : ℕ). find (λ (d : DependRow). eqb d.depend k) b.rows) (sym (eqb-true b.next m is)) ∙ none_new in
      ap (option_map row.Depend) (find-last (λ (d : DependRow). eqb d.depend m) b.rows added none is)
      ∙ sym (ap (λ (t : Bool). cond t (Some (row.Depend added)) (option_map row.Depend (find (λ (d : DependRow). eqb d.depend m) b.rows))) is)
  row_by m false is =
      ap (option_map row.Depend) (find-not_last (λ (d : DependRow). eqb d.depend m) b.rows added is)
      ∙ sym (ap (λ (t : Bool). cond t (Some (row.Depend added)) (option_map row.Depend (find (λ (d : DependRow). eqb d.depend m) b.rows))) is)

  mark_by : (was now : Bool) (r : FarmRow) → cond (was || now) (Some r) None ≡ cond now (Some r) (cond was (Some r) None)
  mark_by true true r = refl
  mark_by true false r = refl
  mark_by false now r = refl

  made : MakesRows (joined f b) (joined f (with_new b n)) (put_depend added ∷ map put_mark (marks_in new_watch))
  made key.Head named = absurd (false≢true (sym named))
  made (key.Depend m) named =
      row_by m (eqb b.next m) refl ∙ sym (put_apart (marks_in new_watch) m (cond (eqb b.next m) (Some (row.Depend added)) (option_map row.Depend (find (λ (d : DependRow). eqb d.depend m) b.rows))))
  made (key.Met m p) named =
      ap (λ (ms : List MetRow). cond (list_any (is_mark m p) ms) (Some (mark_row m p)) None) (marks_more b.graph.depends new_watch)
      ∙ (ap (λ (t : Bool). cond t (Some (mark_row m p)) None) (list_any-append (is_mark m p) (marks_of b.graph.depends) (marks_in new_watch))
      ∙ (mark_by (list_any (is_mark m p) (marks_of b.graph.depends)) (list_any (is_mark m p) (marks_in new_watch)) (mark_row m p)
      ∙ sym (marks_put (marks_in new_watch) m p (row_at (joined f b) (key.Met m p)))))
  made other named =
      sym (leaves_then (put_depend added ∷ []) (map put_mark (marks_in new_watch)) (leaves_depend added) (leaves_put (marks_in new_watch)) other (row_at (joined f b) other) refl)

  makes_new : MakesRows (joined f b) (joined f (with_new b n)) (coming_rows b.graph.done b.next n)
  makes_new = subst (λ (cs : List RowChange). MakesRows (joined f b) (joined f (with_new b n)) cs) (sym coming_is) made

  rises : IsRising depend_key 1 (with_new b n).rows (b.next + 1)
  rises = rising-append depend_key 1 b.next (b.next + 1) b.rows (added ∷ []) rise (omega arith, omega arith)

  -- ---- what was there stays

  some_stays : (m : ℕ) (o : Option DependRow) → row_in b m ≡ o → is_some o ≡ true → row_in (with_new b n) m ≡ row_in b m
  some_stays m None at there = absurd (false≢true there)
  some_stays m (Some d) at there =
      find-append (λ (e : DependRow). eqb e.depend m) b.rows (added ∷ [])
      ∙ (ap (λ (o : Option DependRow). option_or o (find (λ (e : DependRow). eqb e.depend m) (added ∷ []))) at ∙ sym at)

  other_number : (m : ℕ) → is_some (row_in b m) ≡ true → eqb b.next m ≡ false
  other_number m there = by (eqb b.next m) refl
    where
      by : (c : Bool) → eqb b.next m ≡ c → eqb b.next m ≡ false
      by true is = absurd (false≢true (ap (λ (o : Option DependRow). is_some o) (sym none_new ∙ ap (λ (k : ℕ). find (λ (d : DependRow). eqb d.depend k) b.rows) (eqb-true b.next m is)) ∙ there))
      by false is = is

groups_not_last : (ws : List Watch) (w : Watch) (m : ℕ) → eqb w.depend m ≡ false → groups_at (ws ++ w ∷ []) m ≡ groups_at ws m
groups_not_last [] w m apart = ap (λ (c : Bool). cond c w.groups []) apart
groups_not_last (v ∷ vs) w m apart = ap (cond (eqb v.depend m) v.groups) (groups_not_last vs w m apart)

-- depends that come, one after the other
pub makes_all_new : (f : Farm) (b : DependLists) (ns : List NewDepend) → IsRising depend_key 1 b.rows b.next → MakesRows (joined f b) (joined f (with_new_all b ns)) (all_coming_rows b.graph.done b.next ns)
makes_all_new f b [] rise k named = refl
makes_all_new f b (n ∷ ns) rise k named =
    makes_then (joined f b) (joined f (with_new b n)) (joined f (with_new_all (with_new b n) ns)) (coming_rows b.graph.done b.next n) (all_coming_rows b.graph.done (b.next + 1) ns) (makes_new f b n rise)
    (makes_all_new f (with_new b n) ns (rises f b n rise)) k named

-- what is said of one that was there stays
pub satisfied_stays : (f : Farm) (b : DependLists) (ns : List NewDepend) (m : ℕ) → IsRising depend_key 1 b.rows b.next → is_some (row_in b m) ≡ true → satisfied_rows (with_new_all b ns) m ≡ satisfied_rows b m
satisfied_stays f b [] m rise there = refl
satisfied_stays f b (n ∷ ns) m rise there =
    let row = some_stays f b n rise m (row_in b m) refl there in
    let groups = groups_not_last b.graph.depends (watch_of b.graph.done b.next n.groups) m (other_number f b n rise m there) in
    satisfied_stays f (with_new b n) ns m (rises f b n rise) (ap (λ (o : Option DependRow). is_some o) row ∙ there) ∙ λ i. put_satisfied (row i) ++ map delete_mark (map (mark_of m) (groups i))
