-- What changes of the rows of depends and marks make of each row.
use Rattle.std.proofs.Common.{◌≡◌, ℕ, Bool, true, false, not, cond, eqb, ◌&&◌, ◌||◌, List, [], ◌∷◌, ◌++◌, map, Option, None, Some, option_map, refl, sym, ap, ◌∙◌}
use Rattle.std.specs.List.{find, list_any}
use Rattle.std.proofs.lemmas.Bool.{eqb-true, false≢true}
use Rattle.std.proofs.lemmas.Option.{none-some, same_Some}
use Rattle.farm_types.specs.declared.depend.DependRow.{DependRow}
use Rattle.farm_types.specs.declared.depend.MetRow.{MetRow}
use Rattle.farm_types.specs.Farm.{Farm}
use Rattle.farm_types.proofs.Lists.{and_both}
use Rattle.farm_rows.specs.declared.farm_row.FarmRow.{FarmRow}
use Rattle.farm_rows.specs.declared.farm_row.FarmRow.TheVariants as row
use Rattle.farm_rows.specs.declared.row_change.RowChange.{RowChange}
use Rattle.farm_rows.specs.declared.row_key.RowKey.{RowKey}
use Rattle.farm_rows.specs.declared.row_key.RowKey.TheVariants as key
use Rattle.farm_rows.specs.Changes.{MakesRows, row_after, row_at}
use Rattle.farm_rows.proofs.MadeRows.{row_after-append}
use Rattle.depend_graph.specs.declared.trials.marks.Marks.{Marks}
use Rattle.depend_graph.specs.Graph.{Watched, groups_at, is_mark}
use Rattle.depend_book.specs.Book.{DependLists, joined, mark_of, marks_of, row_in}
use Rattle.farm_depends.specs.FollowRows.{all_satisfied_rows, delete_mark, met_rows, put_depend, put_mark, put_satisfied, satisfied_rows}
use Rattle.depend_book.proofs.Zips.{or_none}

-- ---- rows of other kinds

abbrev pub is_apart : RowKey → Bool
is_apart (key.Depend n) = false
is_apart (key.Met n p) = false
is_apart other = true

-- the changes leave the rows of other kinds
abbrev pub Leaves : List RowChange → Type 0
Leaves cs = (k : RowKey) (old : Option FarmRow) → is_apart k ≡ true → row_after cs k old ≡ old

pub leaves_none : Leaves []
leaves_none k old h = refl

pub leaves_depend : (d : DependRow) → Leaves (put_depend d ∷ [])
leaves_depend d (key.Depend n) old h = absurd (false≢true h)
leaves_depend d other old h = refl

leaves_mark : (m : MetRow) → Leaves (put_mark m ∷ [])
leaves_mark m (key.Met n p) old h = absurd (false≢true h)
leaves_mark m other old h = refl

leaves_deleted : (m : MetRow) → Leaves (delete_mark m ∷ [])
leaves_deleted m (key.Met n p) old h = absurd (false≢true h)
leaves_deleted m other old h = refl

pub leaves_then : (cs ds : List RowChange) → Leaves cs → Leaves ds → Leaves (cs ++ ds)
leaves_then cs ds first second k old h = row_after-append cs ds k old ∙ (ap (row_after ds k) (first k old h) ∙ second k old h)

leaves_each : {X : Type 0} (f : X → RowChange) → ((x : X) → Leaves (f x ∷ [])) → (xs : List X) → Leaves (map f xs)
leaves_each f one [] k old h = refl
leaves_each f one (x ∷ xs) k old h = ap (row_after (map f xs) k) (one x k old h) ∙ leaves_each f one xs k old h

pub leaves_put : (ms : List MetRow) → Leaves (map put_mark ms)
leaves_put ms = leaves_each put_mark leaves_mark ms

leaves_satisfied : (b : DependLists) (n : ℕ) → Leaves (satisfied_rows b n)
leaves_satisfied b n = leaves_then (put_satisfied (row_in b n)) (map delete_mark (map (mark_of n) (groups_at b.graph.depends n))) (by_row (row_in b n)) (leaves_each delete_mark leaves_deleted (map (mark_of n) (groups_at b.graph.depends n)))
  where
    by_row : (o : Option DependRow) → Leaves (put_satisfied o)
    by_row None = leaves_none
    by_row (Some d) = leaves_depend (record d { met_all = true })

leaves_all_satisfied : (b : DependLists) (ns : List ℕ) → Leaves (all_satisfied_rows b ns)
leaves_all_satisfied b [] = leaves_none
leaves_all_satisfied b (n ∷ ns) = leaves_then (satisfied_rows b n) (all_satisfied_rows b ns) (leaves_satisfied b n) (leaves_all_satisfied b ns)

leaves_met : (b : DependLists) (marks : Marks) → Leaves (met_rows b marks)
leaves_met b marks = leaves_then (map put_mark marks.met) (all_satisfied_rows b marks.satisfied) (leaves_put marks.met) (leaves_all_satisfied b marks.satisfied)

-- ---- marks

abbrev pub mark_row : ℕ → ℕ → FarmRow
mark_row n p = row.Met (record { depend = n; position = p })

mark_is : (n p : ℕ) (m : MetRow) → is_mark n p m ≡ true → row.Met m ≡ mark_row n p
mark_is n p m is =
    let both = and_both (eqb m.depend n) (eqb m.position p) is in
    λ i. row.Met (record { depend = eqb-true m.depend n both.0 i; position = eqb-true m.position p both.1 i })

either_same : {X : Type 0} (b : Bool) (x : X) → cond b x x ≡ x
either_same true x = refl
either_same false x = refl

pub marks_put : (ms : List MetRow) (n p : ℕ) (old : Option FarmRow) → row_after (map put_mark ms) (key.Met n p) old ≡ cond (list_any (is_mark n p) ms) (Some (mark_row n p)) old
marks_put [] n p old = refl
marks_put (m ∷ ms) n p old = marks_put ms n p (cond (is_mark n p m) (Some (row.Met m)) old) ∙ by (is_mark n p m) refl
  where
    by : (b : Bool) → is_mark n p m ≡ b → cond (list_any (is_mark n p) ms) (Some (mark_row n p)) (cond b (Some (row.Met m)) old) ≡ cond (b || list_any (is_mark n p) ms) (Some (mark_row n p)) old
    by true is = ap (λ (r : FarmRow). cond (list_any (is_mark n p) ms) (Some (mark_row n p)) (Some r)) (mark_is n p m is) ∙ either_same (list_any (is_mark n p) ms) (Some (mark_row n p))
    by false is = refl

marks_deleted : (ms : List MetRow) (n p : ℕ) (old : Option FarmRow) → row_after (map delete_mark ms) (key.Met n p) old ≡ cond (list_any (is_mark n p) ms) None old
marks_deleted [] n p old = refl
marks_deleted (m ∷ ms) n p old = marks_deleted ms n p (cond (is_mark n p m) None old) ∙ by (is_mark n p m)
  where
    by : (b : Bool) → cond (list_any (is_mark n p) ms) None (cond b None old) ≡ cond (b || list_any (is_mark n p) ms) None old
    by true = either_same (list_any (is_mark n p) ms) None
    by false = refl

-- marks are no rows of depends
pub put_apart : (ms : List MetRow) (n : ℕ) (old : Option FarmRow) → row_after (map put_mark ms) (key.Depend n) old ≡ old
put_apart [] n old = refl
put_apart (m ∷ ms) n old = put_apart ms n old

deleted_apart : (ms : List MetRow) (n : ℕ) (old : Option FarmRow) → row_after (map delete_mark ms) (key.Depend n) old ≡ old
deleted_apart [] n old = refl
deleted_apart (m ∷ ms) n old = deleted_apart ms n old

-- ---- rows of depends

-- what is found has the number
pub found_number : (rows : List DependRow) (n : ℕ) (d : DependRow) → find (λ (e : DependRow). eqb e.depend n) rows ≡ Some d → eqb d.depend n ≡ true
found_number [] n d at = absurd (none-some d at)
found_number (x ∷ xs) n d at = by (eqb x.depend n) refl (found_number xs n d) at
  where
    by : (b : Bool) → eqb x.depend n ≡ b → (find (λ (e : DependRow). eqb e.depend n) xs ≡ Some d → eqb d.depend n ≡ true) → cond b (Some x) (find (λ (e : DependRow). eqb e.depend n) xs) ≡ Some d → eqb d.depend n ≡ true
    by true is more here = ap (λ (e : DependRow). eqb e.depend n) (sym (same_Some x d here)) ∙ is
    by false is more found = more found

-- the row, satisfied where the flag says so
abbrev pub row_with : Bool → Option DependRow → Option FarmRow
row_with all o = option_map (λ (d : DependRow). row.Depend (cond all (record d { met_all = true }) d)) o

or_all : (c : Bool) → (c || true) ≡ true
or_all true = refl
or_all false = refl

module _ (b : DependLists) (n : ℕ) where
  put_here : (c : Bool) (o : Option DependRow) → row_in b n ≡ o → row_after (put_satisfied o) (key.Depend n) (row_with c o) ≡ row_with (c || true) o
  put_here c None at = refl
  put_here c (Some d) at =
      ap (λ (t : Bool). cond t (Some (row.Depend (record d { met_all = true }))) (row_with c (Some d))) (found_number b.rows n d at)
      ∙ ap (λ (t : Bool). row_with t (Some d)) (sym (or_all c))

  put_elsewhere : (m : ℕ) (o : Option DependRow) (old : Option FarmRow) → row_in b m ≡ o → eqb m n ≡ false → row_after (put_satisfied o) (key.Depend n) old ≡ old
  put_elsewhere m None old at apart = refl
  put_elsewhere m (Some d) old at apart =
      ap (λ (t : Bool). cond t (Some (row.Depend (record d { met_all = true }))) old) (ap (λ (k : ℕ). eqb k n) (eqb-true d.depend m (found_number b.rows m d at)) ∙ apart)

  put_depend_by : (m : ℕ) (c t : Bool) → eqb m n ≡ t → row_after (put_satisfied (row_in b m)) (key.Depend n) (row_with c (row_in b n)) ≡ row_with (c || t) (row_in b n)
  put_depend_by m c true is =
      ap (λ (k : ℕ). row_after (put_satisfied (row_in b k)) (key.Depend n) (row_with c (row_in b n))) (eqb-true m n is) ∙ put_here c (row_in b n) refl
  put_depend_by m c false is = put_elsewhere m (row_in b m) (row_with c (row_in b n)) refl is ∙ ap (λ (t : Bool). row_with t (row_in b n)) (sym (or_none c))

  satisfied_depend : (m : ℕ) (c : Bool) → row_after (satisfied_rows b m) (key.Depend n) (row_with c (row_in b n)) ≡ row_with (c || eqb m n) (row_in b n)
  satisfied_depend m c =
      row_after-append (put_satisfied (row_in b m)) (map delete_mark (map (mark_of m) (groups_at b.graph.depends m))) (key.Depend n) (row_with c (row_in b n))
      ∙ (deleted_apart (map (mark_of m) (groups_at b.graph.depends m)) n (row_after (put_satisfied (row_in b m)) (key.Depend n) (row_with c (row_in b n)))
      ∙ put_depend_by m c (eqb m n) refl)

  or_assoc : (x y z : Bool) → ((x || y) || z) ≡ (x || (y || z))
  or_assoc true y z = refl
  or_assoc false y z = refl

  all_satisfied_depend : (ns : List ℕ) (c : Bool) → row_after (all_satisfied_rows b ns) (key.Depend n) (row_with c (row_in b n)) ≡ row_with (c || list_any (λ m. eqb m n) ns) (row_in b n)
  all_satisfied_depend [] c = ap (λ (t : Bool). row_with t (row_in b n)) (sym (or_none c))
  all_satisfied_depend (m ∷ ms) c =
      row_after-append (satisfied_rows b m) (all_satisfied_rows b ms) (key.Depend n) (row_with c (row_in b n))
      ∙ (ap (row_after (all_satisfied_rows b ms) (key.Depend n)) (satisfied_depend m c)
      ∙ (all_satisfied_depend ms (c || eqb m n) ∙ ap (λ (t : Bool). row_with t (row_in b n)) (or_assoc c (eqb m n) (list_any (λ k. eqb k n) ms))))

  -- ---- marks of the depend

  module _ (p : ℕ) where
    -- a group of it stands at the position
    abbrev pub has_position : Bool
    has_position = list_any (is_mark n p) (map (mark_of n) (groups_at b.graph.depends n))

    none_of : (m : ℕ) (gs : List Watched) → eqb m n ≡ false → list_any (is_mark n p) (map (mark_of m) gs) ≡ false
    none_of m [] apart = refl
    none_of m (w ∷ ws) apart = ap (λ (t : Bool). (t && eqb w.group.position p) || list_any (is_mark n p) (map (mark_of m) ws)) apart ∙ none_of m ws apart

    positions_by : (m : ℕ) (t : Bool) → eqb m n ≡ t → list_any (is_mark n p) (map (mark_of m) (groups_at b.graph.depends m)) ≡ (t && has_position)
    positions_by m true is = ap (λ (k : ℕ). list_any (is_mark n p) (map (mark_of k) (groups_at b.graph.depends k))) (eqb-true m n is)
    positions_by m false is = none_of m (groups_at b.graph.depends m) is

    put_none : (o : Option DependRow) (old : Option FarmRow) → row_after (put_satisfied o) (key.Met n p) old ≡ old
    put_none None old = refl
    put_none (Some d) old = refl

    satisfied_met : (m : ℕ) (old : Option FarmRow) → row_after (satisfied_rows b m) (key.Met n p) old ≡ cond (eqb m n && has_position) None old
    satisfied_met m old =
        row_after-append (put_satisfied (row_in b m)) (map delete_mark (map (mark_of m) (groups_at b.graph.depends m))) (key.Met n p) old
        ∙ (ap (row_after (map delete_mark (map (mark_of m) (groups_at b.graph.depends m))) (key.Met n p)) (put_none (row_in b m) old)
        ∙ (marks_deleted (map (mark_of m) (groups_at b.graph.depends m)) n p old ∙ ap (λ (t : Bool). cond t None old) (positions_by m (eqb m n) refl)))

    deleted_by : (x y z : Bool) (old : Option FarmRow) → cond (y && z) None (cond (x && z) None old) ≡ cond ((x || y) && z) None old
    deleted_by true true true old = refl
    deleted_by true false true old = refl
    deleted_by false true true old = refl
    deleted_by false false true old = refl
    deleted_by true true false old = refl
    deleted_by true false false old = refl
    deleted_by false true false old = refl
    deleted_by false false false old = refl

    all_satisfied_met : (ns : List ℕ) (old : Option FarmRow) → row_after (all_satisfied_rows b ns) (key.Met n p) old ≡ cond (list_any (λ m. eqb m n) ns && has_position) None old
    all_satisfied_met [] old = refl
    all_satisfied_met (m ∷ ms) old =
        row_after-append (satisfied_rows b m) (all_satisfied_rows b ms) (key.Met n p) old
        ∙ (ap (row_after (all_satisfied_rows b ms) (key.Met n p)) (satisfied_met m old)
        ∙ (all_satisfied_met ms (cond (eqb m n && has_position) None old) ∙ deleted_by (eqb m n) (list_any (λ k. eqb k n) ms) has_position old))

-- ---- groups that are met, and depends that are satisfied

-- the book's rows are satisfied where they are listed, and its marks are those that were and the listed ones, but for those of what is satisfied
pub record MarksChange (b next : DependLists) (marks : Marks) : Type 0 where
  pub rows : (n : ℕ) → option_map row.Depend (row_in next n) ≡ row_with (list_any (λ m. eqb m n) marks.satisfied) (row_in b n)
  pub met : (n p : ℕ) → list_any (is_mark n p) (marks_of next.graph.depends)
      ≡ ((list_any (is_mark n p) marks.met || list_any (is_mark n p) (marks_of b.graph.depends)) && not (list_any (λ m. eqb m n) marks.satisfied && has_position b n p))

marks_by : (gone put was : Bool) (r : FarmRow) → cond ((put || was) && not gone) (Some r) None ≡ cond gone None (cond put (Some r) (cond was (Some r) None))
marks_by true true was r = refl
marks_by true false true r = refl
marks_by true false false r = refl
marks_by false true was r = refl
marks_by false false true r = refl
marks_by false false false r = refl

pub makes_met : (f : Farm) (b next : DependLists) (marks : Marks) → MarksChange b next marks → MakesRows (joined f b) (joined f next) (met_rows b marks)
makes_met f b next marks c key.Head named = absurd (false≢true (sym named))
makes_met f b next marks c (key.Depend n) named =
    c.rows n
    ∙ sym (row_after-append (map put_mark marks.met) (all_satisfied_rows b marks.satisfied) (key.Depend n) (row_with false (row_in b n))
    ∙ (ap (row_after (all_satisfied_rows b marks.satisfied) (key.Depend n)) (put_apart marks.met n (row_with false (row_in b n))) ∙ all_satisfied_depend b n marks.satisfied false))
makes_met f b next marks c (key.Met n p) named =
    let was : Option FarmRow = row_at (joined f b) (key.Met n p) in
    ap (λ (t : Bool). cond t (Some (mark_row n p)) None) (c.met n p)
    ∙ (marks_by (list_any (λ m. eqb m n) marks.satisfied && has_position b n p) (list_any (is_mark n p) marks.met) (list_any (is_mark n p) (marks_of b.graph.depends)) (mark_row n p)
    ∙ sym (row_after-append (map put_mark marks.met) (all_satisfied_rows b marks.satisfied) (key.Met n p) was
    ∙ (ap (row_after (all_satisfied_rows b marks.satisfied) (key.Met n p)) (marks_put marks.met n p was)
    ∙ all_satisfied_met b n p marks.satisfied (cond (list_any (is_mark n p) marks.met) (Some (mark_row n p)) was))))
makes_met f b next marks c other named = sym (leaves_met b marks other (row_at (joined f b) other) refl)
