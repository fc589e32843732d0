-- What a delete of one row does to the table, and what the select shows of it.
use Rattle.std.proofs.Common.{◌≡◌, ℕ, ℤ, pos, List, [], ◌∷◌, Bool, true, None, Ok, Err, Result, OnOk, refl, sym, ap, subst, ◌∙◌, codes}
use Rattle.std.specs.FinMap.{remove}
use Rattle.std.specs.List.{list_all}
use Rattle.sqlite_value.specs.Order.{Row}
use Rattle.sqlite_value.specs.declared.value.Value.TheVariants.{Null, Int}
use Rattle.sqlite_trees.specs.Tree.{Trees}
use Rattle.sqlite_sql.specs.Term.{Env, eval_all, holds}
use Rattle.sqlite_sql.specs.Query.{IsAnswer}
use Rattle.sqlite_sql.specs.Program.{overlay}
use Rattle.sqlite_rules.specs.Lists.{Has}
use Rattle.sqlite_rules.specs.Calls.{ids_of}
use Rattle.sqlite_rules.specs.Edit.{edit_of, without_all}
use Rattle.sqlite_rules.specs.declared.error.Rowids.TheVariants.{Given}
use Rattle.sqlite.specs.Command.TheVariants.{Delete, Select}
use Rattle.sqlite.specs.Does.{Does, Tally}
use Rattle.sqlite.specs.Effect.{Database}
use Rattle.sqlite.specs.Rows.{Written}
use Rattle.sqlite.specs.State.{State, Executes, ExecutesInside, Shown, mode_of}
use Rattle.sqlite.specs.declared.error.Error.{Error}
use Rattle.sqlite.specs.Listing.{understood}
use Rattle.sqlite.proofs.Callers.{one_step, reads_as, runs_as, statement_of}
use Rattle.keeper_sqlite.specs.Table.{rows_schema, rows_table}
use Rattle.keeper_sqlite.specs.Told.{AreShown, HasTable, IsTold, Within, key_in, row_of, told, told_in}
use Rattle.keeper_sqlite.proofs.AnswerLemmas.{answer_from, answer_has, passing_from, passing_has}
use Rattle.keeper_sqlite.proofs.KeyLemmas.{equal_int, is_place, place_is, same_place, told_removed}
use Rattle.keeper_sqlite.proofs.LeftLemmas.{AreThose, left_told, stays, went_out}
use Rattle.keeper_sqlite.proofs.PutLemmas.{same_value, went}
use Rattle.keeper_sqlite.proofs.TextLemmas.{delete_is, delete_plain, delete_query, delete_text, select_is, select_plain, select_query, select_text}

-- ---- the rows that the delete takes out are those of a kind and an id

module _ (kind id : ℕ) where
  abbrev params : Row
  params = Int (pos kind) ∷ Int (pos id) ∷ []

  abbrev env : Row → Env
  env r = params ∷ r ∷ []

  abbrev passes : Row → Bool
  passes r = list_all (holds (env r)) delete_query.filter

  passes_are : (place : ℤ) (k i : ℕ) (c : List ℕ) → passes (row_of place k i c) ≡ same_place k i kind id
  passes_are place k i c = rw (equal_int (pos k) (pos kind), equal_int (pos i) (pos id)) refl

  module _ (db : Trees) (is : IsTold (db 0)) (rows : List Row) (a : IsAnswer delete_query (overlay db []) params rows) where
    are_those : AreThose (db 0) (kind, id) rows
    are_those = record {
      sound = λ x h.
          let e = answer_has delete_query a.staged a.kept a.ordered rows a.distinct a.same a.shown x h in
          let r = passing_has passes env (db 0) e.0 (subst (λ l. Has l e.0) a.grouped e.1) in
          let fit = is.fit r.0 r.1 in (
            r.0,
            r.1,
            ap key_in fit.is ∙ place_is fit.kind fit.id kind id (sym (passes_are fit.place fit.kind fit.id fit.content) ∙ subst (λ y. passes y ≡ true) fit.is r.2),
            e.2 ∙ ap (eval_all delete_query.project) r.3,
          );
      complete = λ r h same.
          let fit = is.fit r h in
          let passing = subst (λ y. passes y ≡ true) (sym fit.is) (passes_are fit.place fit.kind fit.id fit.content ∙ is_place fit.kind fit.id kind id (sym (ap key_in fit.is) ∙ same)) in
          answer_from delete_query a.staged a.kept a.ordered rows a.distinct a.same a.shown (env r) (subst (λ l. Has l (env r)) (sym a.grouped) (passing_from passes env (db 0) r h passing));
    }

  deletes_one : (old new : State) (count : ℕ) → HasTable old → Executes delete_text params old new (Ok count) → HasTable new × (told_in new ≡ remove (told_in old) (kind, id))
  deletes_one old new count has h =
      let db = old.now.trees in
      let command = Delete 0 (record { lets = []; body = delete_query }) in
      let w = runs_as delete_text params old new rows_schema has.schema command delete_is delete_plain count h in
      let text = statement_of delete_text (understood rows_schema delete_text) in
      let done = went (subst (λ s. Does old.step_limit (mode_of old) params (record old.now { schema = s }) text None command (Ok (w.tally, new.now))) has.schema w.changed) in
      let now = ap (λ (p : Tally × Database). p.1) (same_value (went (went done.2).2).2) in
      let asked = went done.1 in
      let made = went asked.2 in
      let those = are_those db has.rows asked.0 (asked.1.answer Null) in
      let step = (one_step rows_schema (mode_of old).keys db made.0 (edit_of db rows_table (ids_of asked.0) Given 0 []) refl made.1).rows in
      let trees : new.now.trees 0 ≡ without_all (db 0) (ids_of asked.0) =
      ap (λ (d : Database). d.trees 0) now ∙ ap (λ (x : Written). x.trees 0) (same_value made.2) ∙ step in
      let left = left_told (db 0) has.rows (kind, id) asked.0 those in (
        record { schema = ap (λ (d : Database). d.schema) now; rows = subst IsTold (sym trees) left },
        ap told trees ∙ told_removed (db 0) (without_all (db 0) (ids_of asked.0)) (kind, id) has.rows.each left.each (stays (db 0) has.rows (kind, id) asked.0 those)
            (went_out (db 0) has.rows (kind, id) asked.0 those),
      )

pub delete_within : (old new : State) (kind : ℕ) (id : ℤ) (r : Result ℕ Error) → ExecutesInside 0 delete_text (Int (pos kind) ∷ Int id ∷ []) old new r
    → OnOk r ((l : ℕ) → id ≡ pos l → Within old new (λ rows. remove rows (kind, l)))
delete_within old new kind id (Err e) h = tt
delete_within old new kind id (Ok count) h = λ l same. record {
  shown = h.1;
  kept = λ has. deletes_one kind l old new count has (subst (λ n. Executes delete_text (Int (pos kind) ∷ Int n ∷ []) old new (Ok count)) same h.0);
}

-- ---- the select shows each row of the table, and nothing else

abbrev plain_env : Row → Env
plain_env r = [] ∷ r ∷ []

pub selects : (old new : State) (rows : List Row) → old.now.schema ≡ rows_schema → Shown select_text [] old new rows → AreShown (old.now.trees 0) rows
selects old new rows schema h =
    let got = reads_as select_text [] old new rows_schema schema (Select (record { lets = []; body = select_query }) (codes "kind" ∷ codes "id" ∷ codes "bytes" ∷ []))
    select_is.0 select_plain select_is.1 rows h in
    let a : IsAnswer select_query (overlay old.now.trees []) [] rows = got.answer Null in
    record {
      sound = λ x k.
          let e = answer_has select_query a.staged a.kept a.ordered rows a.distinct a.same a.shown x k in
          let r = passing_has (λ _. true) plain_env (old.now.trees 0) e.0 (subst (λ l. Has l e.0) a.grouped e.1) in
          (r.0, r.1, e.2 ∙ ap (eval_all select_query.project) r.3);
      complete = λ r k.
          answer_from select_query a.staged a.kept a.ordered rows a.distinct a.same a.shown (plain_env r)
          (subst (λ l. Has l (plain_env r)) (sym a.grouped) (passing_from (λ _. true) plain_env (old.now.trees 0) r k refl));
    }
