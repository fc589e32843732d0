-- What the statement that makes the table does, and which schema is ours.
use Rattle.std.proofs.Common.{◌≡◌, ℕ, List, [], ◌∷◌, get_or, refl, false, None, Ok, Err, Result, OnOk, sym, ap, subst, ◌∙◌, arith, length}
use Rattle.std.specs.Fmt.{digits}
use Rattle.sqlite.specs.Change.{created, next_tree}
use Rattle.sqlite.specs.Schema.{Schema}
use Rattle.sqlite.specs.Table.{Table}
use Rattle.sqlite_schema.specs.declared.schema.Index.{Index}
use Rattle.sqlite.specs.Command.TheVariants.{CreateTable}
use Rattle.sqlite.specs.Does.{Tally, lacks_sequence}
use Rattle.sqlite.specs.Effect.{Database}
use Rattle.sqlite.specs.State.{State, Executes, Writes}
use Rattle.sqlite.specs.declared.error.Error.{Error}
use Rattle.sqlite.proofs.Callers.{runs_as}
use Rattle.keeper_sqlite.specs.Table.{no_schema, rows_index, rows_schema, rows_table}
use Rattle.keeper_sqlite.specs.Told.{IsMade, IsTold, told}
use Rattle.keeper_sqlite.proofs.PutLemmas.{same_value, went}
use Rattle.keeper_sqlite.proofs.TextLemmas.{create_is, create_plain, create_text}

told_none : IsTold []
told_none = record { table = tt; fit = λ r h. absurd h; each = λ a b h k e. absurd h }

pub creates : (old new : State) (r : Result ℕ Error) → old.in_transaction ≡ false → old.now.schema ≡ no_schema → Executes create_text [] old new r → OnOk r (IsMade new)
creates old new (Err e) idle has h = tt
creates old new (Ok count) idle has h =
    let w = subst (λ t. Writes old new None CreateTable t [] count) create_is.1 (runs_as create_text [] old new no_schema has CreateTable create_is.0 create_plain count h) in
    let all = went w.changed in
    let first = went all.1 in
    let made = first.1 in
    let both : Ok made.table ≡ Ok rows_table = sym made.defined ∙ create_is.2 in
    let same : made.table ≡ rows_table = cc in
    let schema : first.0.schema ≡ rows_schema = made.is ∙ ap (λ s. created s made.table) has ∙ ap (created no_schema) same in
    let plain : lacks_sequence first.0.schema ≡ false = ap lacks_sequence schema in
    let now : new.now ≡ first.0 = ap (λ (p : Tally × Database). p.1) (same_value all.2) ∙ same_value (rw plain at first.2) in
    let rows : new.now.trees 0 ≡ [] = ap (λ (d : Database). d.trees 0) now ∙ subst (λ s. first.0.trees (next_tree s) ≡ []) has made.empty in
    record {
      is_open = w.shown.is_open;
      has = record { schema = ap (λ (d : Database). d.schema) now ∙ schema; rows = subst IsTold (sym rows) told_none };
      none = ap told rows;
      settled = sym (rw idle at w.shown.committed_is);
    }

one_item : {X : Type 0} (xs : List X) (x : X) → length xs ≡ 1 → x ≡ get_or xs 0 x → xs ≡ x ∷ []
one_item [] x len is = absurd (omega (arith, len))
one_item (y ∷ []) x len is = ap (λ z. z ∷ []) (sym is)
one_item (y ∷ z ∷ xs) x len is = absurd (omega (arith, len))

schema_is : rows_schema ≡ record { tables = rows_table ∷ []; indexes = rows_index ∷ []; views = [] }
unfolding digits
schema_is = refl

pub is_ours : (schema : Schema) (table : Table) (index : Index) (tables : List Table) (indexes : List Index) → tables ≡ schema.tables → indexes ≡ schema.indexes → length tables ≡ 1 → length indexes ≡ 1
    → table ≡ get_or tables 0 table → index ≡ get_or indexes 0 index → table ≡ rows_table → index ≡ rows_index → schema.views ≡ [] → schema ≡ rows_schema
is_ours schema table index tables indexes t i one_table one_index is_table is_index table_is index_is views =
    let all_tables : schema.tables ≡ rows_table ∷ [] = sym t ∙ one_item tables table one_table is_table ∙ ap (λ x. x ∷ []) table_is in
    let all_indexes : schema.indexes ≡ rows_index ∷ [] = sym i ∙ one_item indexes index one_index is_index ∙ ap (λ x. x ∷ []) index_is in
    let all : schema ≡ record { tables = rows_table ∷ []; indexes = rows_index ∷ []; views = [] } = λ k. record { tables = all_tables k; indexes = all_indexes k; views = views k } in
    all ∙ sym schema_is

-- the index of our schema
pub our_index : (schema : Schema) → schema ≡ rows_schema → schema.indexes ≡ rows_index ∷ []
our_index schema is = ap (λ (s : Schema). s.indexes) (is ∙ schema_is)
