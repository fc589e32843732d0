-- What a put of one row does to the table.
use Rattle.std.proofs.Common.{◌≡◌, ◌⊎◌, inl, inr, ℕ, ℤ, pos, List, [], ◌∷◌, true, false, None, Some, Option, Ok, Err, Result, OnOk, refl, sym, ap, subst, ◌∙◌, true≢false, is_eq, int_cmp, IsTrue, ◌&&◌, ◌||◌}
use Rattle.std.specs.FinMap.{insert}
use Rattle.std.specs.List.{AllByRecursion}
use Rattle.std.proofs.lemmas.Bool.{or_cases, or_left, or_right, and_parts}
use Rattle.sqlite_value.specs.Order.{Row, value_cmp}
use Rattle.sqlite_value.specs.declared.value.Value.TheVariants.{Null, Int, Blob}
use Rattle.sqlite_value.specs.Keys.{first_key}
use Rattle.sqlite_value.proofs.OrderLemmas.{value_cmp-Int}
use Rattle.sqlite_trees.specs.Tree.{Trees, rowid, put_row}
use Rattle.sqlite_trees.specs.View.{is_int}
use Rattle.sqlite_trees.proofs.TreeLemmas.{IsTable-put_row}
use Rattle.sqlite_schema.specs.declared.command.Conflict.TheVariants.{Replace}
use Rattle.sqlite_schema.specs.declared.schema.Keys.{Keys}
use Rattle.sqlite_rules.specs.Lists.{Has}
use Rattle.sqlite_rules.specs.Calls.{ids_of}
use Rattle.sqlite_rules.specs.Edit.{edit_of, next_rowid, without_all, with_rowid}
use Rattle.sqlite_rules.specs.Cast.{cast_row}
use Rattle.sqlite_rules.specs.Keys.{AreConflicts, conflicts}
use Rattle.sqlite_rules.specs.declared.error.Rowids.TheVariants.{Chosen, Given}
use Rattle.sqlite_rules.proofs.ListLemmas.{all_from, some_from}
use Rattle.sqlite_rules.proofs.TableLemmas.{has_put, put_has}
use Rattle.sqlite_rules.proofs.PlaceLemmas.{next_is_free}
use Rattle.sqlite.specs.Command.TheVariants.{InsertOr}
use Rattle.sqlite.specs.Source.TheVariants.{Values}
use Rattle.sqlite.specs.Does.{Does, Tally}
use Rattle.sqlite.specs.Effect.{Database}
use Rattle.sqlite.specs.Rows.{Clears, Puts, Task, Tries, TriesEach, Written, count_of, mended, nothing}
use Rattle.sqlite.specs.State.{State, Executes, ExecutesInside, mode_of}
use Rattle.sqlite.specs.declared.error.Error.{Error}
use Rattle.sqlite.specs.Listing.{understood}
use Rattle.sqlite.proofs.Callers.{one_step, runs_as, statement_of}
use Rattle.keeper_sqlite.specs.Table.{rows_schema, rows_table}
use Rattle.keeper_sqlite.specs.Told.{HasTable, IsTold, Within, key_in, row_of, told, told_in}
use Rattle.keeper_sqlite.proofs.KeyLemmas.{equal_int, equal_is, is_place, place_is, same_place, told_put}
use Rattle.keeper_sqlite.proofs.LeftLemmas.{AreThose, Tied, left_told, put_spares, stays, went_out}
use Rattle.keeper_sqlite.proofs.TextLemmas.{cast_int, cast_null, put_is, put_plain, put_terms, put_text}

-- a part that gave a value did not stop on the way
pub went : {B E R : Type 0} {b : B} {Stops : E → Type 0} → ((stop : E) × Stops stop × (Ok b ≡ Err stop)) ⊎ R → R
went (inl stopped) = absurd (let e = stopped.2 in cc)
went (inr on) = on

pub same_value : {B E : Type 0} {a b : B} → ◌≡◌ {A = Result B E} (Ok a) (Ok b) → a ≡ b
same_value e = cc

-- ---- the table with a new row in place of those of its kind and id

module _ (rows : List Row) (is : IsTold rows) (kind id : ℕ) (content : List ℕ) where
  abbrev fresh : Row
  fresh = row_of (next_rowid rows) kind id content

  keyed : AllByRecursion (λ (r : Row). IsTrue (is_int (rowid r))) rows
  keyed = all_from (λ (r : Row). IsTrue (is_int (rowid r))) rows (λ r h. let fit = is.fit r h in subst (λ (x : Row). IsTrue (is_int (rowid x))) (sym fit.is) refl)

  -- no row that was there has the fresh rowid
  free : (r : Row) → Has rows r → Tied r fresh → ⊥
  free r h tie =
      let none = next_is_free Chosen rows (Int (pos kind) ∷ Int (pos id) ∷ Blob content ∷ []) is.table keyed in
      true≢false (sym (some_from (λ (x : Row). is_eq (value_cmp (rowid x) (rowid fresh))) rows r h (ap is_eq tie)) ∙ none)

  -- the rows that conflict with it are those of its kind and id
  conflicts_are : (place : ℤ) (k i : ℕ) (c : List ℕ)
      → conflicts None rows_schema.indexes rows_table fresh (row_of place k i c) ≡ ((is_eq (int_cmp place (next_rowid rows)) && true) || (same_place k i kind id || false))
  unfolding first_key
  conflicts_are place k i c = rw (equal_int place (next_rowid rows), equal_int (pos k) (pos kind), equal_int (pos i) (pos id)) refl

  conflict_is : (r : Row) → Has rows r → conflicts None rows_schema.indexes rows_table fresh r ≡ true → key_in r ≡ (kind, id)
  conflict_is r h e =
      let fit = is.fit r h in
      let e' = sym (conflicts_are fit.place fit.kind fit.id fit.content) ∙ subst (λ x. conflicts None rows_schema.indexes rows_table fresh x ≡ true) fit.is e in
      elim (or_cases _ _ e') [
        | inl same ↦ absurd (free r h (subst (λ x. Tied x fresh) (sym fit.is) (value_cmp-Int fit.place (next_rowid rows) ∙ equal_is _ (and_parts _ _ same).0)))
        | inr more ↦ elim (or_cases _ _ more) [
          | inl same ↦ ap key_in fit.is ∙ place_is fit.kind fit.id kind id same
          | inr none ↦ absurd (true≢false (sym none))
        ]
      ]

  is_conflict : (r : Row) → Has rows r → key_in r ≡ (kind, id) → conflicts None rows_schema.indexes rows_table fresh r ≡ true
  is_conflict r h same =
      let fit = is.fit r h in
      subst (λ x. conflicts None rows_schema.indexes rows_table fresh x ≡ true) (sym fit.is)
      (conflicts_are fit.place fit.kind fit.id fit.content ∙ or_right _ _ (or_left _ _ (is_place fit.kind fit.id kind id (sym (ap key_in fit.is) ∙ same))))

  are_those : (found : List Row) → AreConflicts None rows_schema.indexes rows_table rows fresh found → AreThose rows (kind, id) found
  are_those found those = record {
    sound = λ x h. let t = those.sound x h in (t.0, t.1, conflict_is t.0 t.1 t.2, t.3);
    complete = λ r h same. those.complete r h (is_conflict r h same);
  }

  module _ (found : List Row) (those : AreThose rows (kind, id) found) where
    abbrev left : List Row
    left = without_all rows (ids_of found)

    left_has_no : (r : Row) → Has left r → key_in r ≡ (kind, id) → ⊥
    left_has_no r h = (went_out rows is (kind, id) found those r h).1

    now_told : IsTold (put_row fresh left)
    now_told =
        let kept = left_told rows is (kind, id) found those in
        record {
          table = IsTable-put_row fresh left kept.table;
          fit = λ r h. elim (put_has fresh left r h) [
            | inl same ↦ record { place = next_rowid rows; kind = kind; id = id; content = content; is = same }
            | inr old ↦ kept.fit r old
          ];
          each = λ a b p q e. elim (put_has fresh left a p) [
            | inl a_new ↦ elim (put_has fresh left b q) [
              | inl b_new ↦ a_new ∙ sym b_new
              | inr b_old ↦ absurd (left_has_no b b_old (sym e ∙ ap key_in a_new))
            ]
            | inr a_old ↦ elim (put_has fresh left b q) [
              | inl b_new ↦ absurd (left_has_no a a_old (e ∙ ap key_in b_new))
              | inr b_old ↦ kept.each a b a_old b_old e
            ]
          ];
        }

    now_is : told (put_row fresh left) ≡ insert (told rows) (kind, id) content
    now_is = told_put rows (put_row fresh left) (kind, id) is.each now_told.each
        (λ r h other. put_spares fresh left r (stays rows is (kind, id) found those r h other) (free r h))
        fresh content (has_put fresh left) refl refl
        (λ r h. elim (put_has fresh left r h) [ inl same ↦ inl same | inr old ↦ inr (went_out rows is (kind, id) found those r old).0 ])

-- ---- the statement

module _ (limit : Option ℕ) (keys : Keys) (params : Row) where
  abbrev task : Task
  task = record { limit = limit; keys = keys; schema = rows_schema; table = rows_table; params = params }

  puts_is : (place : ℤ) (kind id : ℕ) (content : List ℕ) (db : Trees) (w : Written) → Puts task (row_of place kind id content) db (Ok w)
      → w.trees 0 ≡ put_row (row_of place kind id content) (db 0)
  puts_is place kind id content db w h =
      let it = went h in
      let rows = (one_step rows_schema keys db it.0 (edit_of db rows_table [] Given 0 (row_of place kind id content ∷ [])) refl it.1).rows in
      let trees : w.trees ≡ it.0 = ap (λ (x : Written). x.trees) (same_value it.2) in
      ap (λ (t : Trees). t 0) trees ∙ rows ∙ rw (cast_int place, cast_int (pos kind), cast_int (pos id)) refl

  clears_is : (place : ℤ) (kind id : ℕ) (content : List ℕ) (db : Trees) (w : Written) (found : List Row) → Clears task Replace (row_of place kind id content) db found (Ok w)
      → w.trees 0 ≡ put_row (row_of place kind id content) (without_all (db 0) (ids_of found))
  clears_is place kind id content db w [] h = puts_is place kind id content db w h
  clears_is place kind id content db w (x ∷ more) h =
      let it = went h in
      let rows = (one_step rows_schema keys db it.0 (edit_of db rows_table (ids_of (x ∷ more)) Given 0 []) refl it.1).rows in
      puts_is place kind id content it.0 w it.2 ∙ ap (put_row (row_of place kind id content)) rows

  abbrev Puts_row : ℕ → ℕ → List ℕ → Trees → Trees → Type 0
  Puts_row kind id content db next = IsTold (next 0) × (told (next 0) ≡ insert (told (db 0)) (kind, id) content)

  tried_is : (kind id : ℕ) (content : List ℕ) (db : Trees) (w : Written) → IsTold (db 0) → Tries task Replace [] (row_of (next_rowid (db 0)) kind id content) db (Ok w)
      → Puts_row kind id content db w.trees
  tried_is kind id content db w is (inl none) = absurd (let e = none.1 in cc)
  tried_is kind id content db w is (inr (None, judged, h)) =
      let found = h.0 in
      let those = are_those (db 0) is kind id content found h.1 in
      let trees = clears_is (next_rowid (db 0)) kind id content db w found h.2 in
      (subst IsTold (sym trees) (now_told (db 0) is kind id content found those), ap told trees ∙ now_is (db 0) is kind id content found those)
  tried_is kind id content db w is (inr (Some why, judged, h)) = absurd (let e = h in cc)

  abbrev source : ℕ → ℕ → List ℕ → Row
  source kind id content = Null ∷ Int (pos kind) ∷ Int (pos id) ∷ Blob content ∷ []

  tries_is : (kind id : ℕ) (content : List ℕ) (db : Trees) (top : ℤ) (w : Written × ℤ) → IsTold (db 0)
      → TriesEach task Replace [] (source kind id content ∷ []) top (nothing db) (Ok w) → Puts_row kind id content db w.0.trees
  tries_is kind id content db top w is h =
      let one = went h in
      let trees : w.0.trees ≡ one.0.trees = ap (λ (x : Written × ℤ). x.0.trees) (same_value one.2) in
      let new_is : with_rowid Chosen (db 0) (cast_row rows_table (mended Replace rows_table (source kind id content))) ≡ row_of (next_rowid (db 0)) kind id content =
      rw (cast_null, cast_int (pos kind), cast_int (pos id)) refl in
      subst (Puts_row kind id content db) (sym trees) (tried_is kind id content db one.0 is (subst (λ row. Tries task Replace [] row db (Ok one.0)) new_is one.1))

puts_one : (old new : State) (kind id : ℕ) (content : List ℕ) (count : ℕ) → HasTable old
    → Executes put_text (Int (pos kind) ∷ Int (pos id) ∷ Blob content ∷ []) old new (Ok count) → HasTable new × (told_in new ≡ insert (told_in old) (kind, id) content)
puts_one old new kind id content count has h =
    let params = Int (pos kind) ∷ Int (pos id) ∷ Blob content ∷ [] in
    let db = old.now.trees in
    let command = InsertOr 0 Replace (Values put_terms 4) [] in
    let w = runs_as put_text params old new rows_schema has.schema command put_is put_plain count h in
    let text = statement_of put_text (understood rows_schema put_text) in
    let done = went (subst (λ s. Does old.step_limit (mode_of old) params (record old.now { schema = s }) text None command (Ok (w.tally, new.now))) has.schema w.changed) in
    let now = ap (λ (p : Tally × Database). p.1) (same_value (went (went done.2).2).2) in
    let given = went done.1 in
    let counted = went given.2 in
    let tried = went counted.2 in
    let last = went tried.2 in
    let each = subst (λ all. TriesEach (task old.step_limit (mode_of old).keys params) Replace [] all (count_of counted.0) (nothing db) (Ok tried.0)) given.1.1 tried.1 in
    let it = tries_is old.step_limit (mode_of old).keys params kind id content db (count_of counted.0) tried.0 has.rows each in
    let trees : new.now.trees ≡ tried.0.0.trees = ap (λ (d : Database). d.trees) now ∙ ap (λ (x : Written). x.trees) (same_value last.2) ∙ same_value last.1 in
    (record { schema = ap (λ (d : Database). d.schema) now; rows = subst (λ (t : Trees). IsTold (t 0)) (sym trees) it.0 }, ap (λ (t : Trees). told (t 0)) trees ∙ it.1)

pub put_within : (old new : State) (kind : ℕ) (id : ℤ) (content : List ℕ) (r : Result ℕ Error) → ExecutesInside 0 put_text (Int (pos kind) ∷ Int id ∷ Blob content ∷ []) old new r
    → OnOk r ((l : ℕ) → id ≡ pos l → Within old new (λ rows. insert rows (kind, l) content))
put_within old new kind id content (Err e) h = tt
put_within old new kind id content (Ok count) h = λ l same. record {
  shown = h.1;
  kept = λ has. puts_one old new kind l content count has (subst (λ n. Executes put_text (Int (pos kind) ∷ Int n ∷ Blob content ∷ []) old new (Ok count)) same h.0);
}
