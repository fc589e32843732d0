-- What a connection holds as rows, and what a stop leaves of them.
use Rattle.std.specs.Prelude.{◌≡◌, ◌⊎◌, ◌<◌, ◌&&◌, ℕ, ℤ, pos, negsuc, Bool, List, [], ◌∷◌, map, true, IsTrue, T}
use Rattle.std.specs.FinMap.{empty, from_entries, is_sorted}
use Rattle.std.specs.Ordering.{is_lt}
use Rattle.sqlite_value.specs.declared.value.Value.{Value}
use Rattle.sqlite_value.specs.declared.value.Value.TheVariants.{Int, Blob}
use Rattle.sqlite_value.specs.Order.{Row, column, bytes}
use Rattle.sqlite_rules.specs.Edit.{id_in}
use Rattle.sqlite_rules.specs.Lists.{Has}
use Rattle.sqlite_trees.specs.Tree.{Trees, IsTable}
use Rattle.sqlite_trees.specs.View.{IsShaped}
use Rattle.sqlite_trees.specs.declared.store.Shape.TheVariants.{Table}
use Rattle.sqlite.specs.Effect.{IsDatabase}
use Rattle.sqlite.specs.State.{State, HasCleanDisk, Shows}
use Rattle.farm_keeper.specs.declared.row.Batch.{Batch}
use Rattle.farm_keeper.specs.declared.row.Row.{Row as Kept}
use Rattle.farm_keeper.specs.Keeping.{HasKept}
use Rattle.farm_keeper.specs.Rows.{Key, Rows, after, entry_of, key_cmp}
use Rattle.keeper_sqlite.specs.Table.{no_schema, rows_schema}

abbrev pub natural : ℤ → ℕ
natural (pos n) = n
natural (negsuc n) = 0

abbrev pub number_in : Value → ℕ
number_in v = natural (id_in v)

-- a row of the table is its rowid, its kind, its id and its bytes
abbrev pub key_in : Row → Key
key_in row = (number_in (column row 1), number_in (column row 2))

abbrev pub entry_in : Row → Key × List ℕ
entry_in row = (key_in row, bytes (column row 3))

-- the rows that the table stands for
abbrev pub told : List Row → Rows
told rows = from_entries (map entry_in rows)

abbrev pub row_of : ℤ → ℕ → ℕ → List ℕ → Row
row_of place kind id content = Int place ∷ Int (pos kind) ∷ Int (pos id) ∷ Blob content ∷ []

pub record IsFit (row : Row) : Type 0 where
  pub place : ℤ
  pub kind : ℕ
  pub id : ℕ
  pub content : List ℕ
  pub is : row ≡ row_of place kind id content

-- each row is well formed, and no two have one rowid, or one kind and id
pub record IsTold (rows : List Row) : Type 0 where
  pub table : IsTable rows
  pub fit : (row : Row) → Has rows row → IsFit row
  pub each : (a b : Row) → Has rows a → Has rows b → key_in a ≡ key_in b → a ≡ b

-- the database has the one table, whose rows are well formed
pub record HasTable (s : State) : Type 0 where
  pub schema : s.now.schema ≡ rows_schema
  pub rows : IsTold (s.now.trees 0)

abbrev pub told_in : State → Rows
told_in s = told (s.now.trees 0)

-- one step of a transaction makes this change, and commits nothing
pub record Within (old new : State) (change : Rows → Rows) : Type 0 where
  pub shown : Shows old new new.now old.committed true
  pub kept : HasTable old → HasTable new × (told_in new ≡ change (told_in old))

-- so many changes come to this one, and nothing is committed
pub record HasChanged (old new : State) (count : ℕ) (change : Rows → Rows) : Type 0 where
  pub opened : 0 < count → IsTrue old.is_open
  pub back : IsTrue new.is_open → IsTrue old.is_open
  pub mode : IsTrue new.in_transaction
  pub made : IsTrue old.is_open → Within old new change

-- the batch is made and committed
pub record IsWritten (batch : Batch) (old new : State) : Type 0 where
  pub was_open : IsTrue old.is_open
  pub is_open : IsTrue new.is_open
  pub committed : old.now ≡ old.committed → new.now ≡ new.committed
  pub kept : HasTable old → HasTable new × (told_in new ≡ after batch (told_in old))

-- what was written since the last commit is undone
pub record IsUndone (old new : State) : Type 0 where
  pub was_open : IsTrue old.is_open
  pub now : old.now ≡ old.committed → new.now ≡ old.committed
  pub committed : new.committed ≡ old.committed

-- these trees have the batch
pub record MayWrite (batch : Batch) (old : State) (db : Trees) : Type 0 where
  pub was_open : IsTrue old.is_open
  pub kept : HasTable old → IsTold (db 0) × (told (db 0) ≡ after batch (told_in old))

-- while its store has been true so far, and no failure has shut it, it holds these rows
abbrev pub Holds : State → Rows → Type 0
Holds s rows = HasCleanDisk s → IsTrue s.is_open → HasTable s × (told_in s ≡ rows) × (s.now ≡ s.committed)

-- a stop at this moment may leave these rows
abbrev pub Leaves : State → Rows → Type 0
Leaves s rows = HasCleanDisk s × (db : Trees) × s.may_leave db × (rows ≡ told (db 0))

-- each row of the table is shown by its kind, id and bytes, and nothing else is
abbrev pub shown : Row → Row
shown row = column row 1 ∷ column row 2 ∷ column row 3 ∷ []

pub record AreShown (rows out : List Row) : Type 0 where
  pub sound : (x : Row) → Has out x → (r : Row) × Has rows r × (x ≡ shown r)
  pub complete : (r : Row) → Has rows r → Has out (shown r)

-- the connection was open, and these are its rows
pub record IsReading (old : State) (out : List Row) : Type 0 where
  pub was_open : IsTrue old.is_open
  pub are : old.now.schema ≡ rows_schema → AreShown (old.now.trees 0) out

-- a shown row whose kind and id are not negative
pub record HasNumbers (out : Row) : Type 0 where
  pub kind : ℕ
  pub id : ℕ
  pub kind_is : column out 0 ≡ Int (pos kind)
  pub id_is : column out 1 ≡ Int (pos id)

-- kinds and ids rise from a first one on
abbrev pub rises_from : Key → List Key → Bool
rises_from key [] = true
rises_from key (next ∷ more) = is_lt (key_cmp key next) && rises_from next more

abbrev pub IsRising : List Kept → Type 0
IsRising list = T (is_sorted key_cmp (map entry_of list))

-- these are the rows of a database that has nothing yet, or of one that has the table
abbrev pub IsFound : State → Rows → Type 0
IsFound s rows = ((s.now.schema ≡ no_schema) × (rows ≡ empty)) ⊎ ((s.now.schema ≡ rows_schema) × (rows ≡ told_in s))

-- the table was made, and is committed
pub record IsMade (s : State) : Type 0 where
  pub is_open : IsTrue s.is_open
  pub has : HasTable s
  pub none : told_in s ≡ empty
  pub settled : s.now ≡ s.committed

-- a connection over the store of another one has what was committed there; its database is whole, and the rows of the table are in order
pub record IsReopened (old new : State) : Type 0 where
  pub was_open : IsTrue old.is_open
  pub is_open : IsTrue new.is_open
  pub settled : new.now ≡ new.committed
  pub trees : new.now.trees ≡ old.committed.trees
  pub sound : IsDatabase new.now
  pub ordered : new.now.schema ≡ rows_schema → IsShaped Table (new.now.trees 0)

-- a keeper over a connection holds the rows that were found there, and a stop leaves these and nothing else
pub record IsOver (old new : State) : Type 0 where
  pub told_before : HasCleanDisk new → HasCleanDisk old
  pub kept : HasCleanDisk new → (rows : Rows) × IsFound old rows × HasKept (Holds new) (Leaves new) rows []
