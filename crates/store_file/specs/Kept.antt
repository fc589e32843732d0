-- What a keeper over a file holds, by what the file and its log held.
use Rattle.std.specs.Prelude.{◌≡◌, ◌⊎◌, []}
use Rattle.std.specs.FinMap.{empty}
use Rattle.sqlite_wal.specs.Recovery.{Image}
use Rattle.sqlite_trees.specs.Tree.{Trees}
use Rattle.sqlite_catalog.specs.Listing.{IsSound}
use Rattle.sqlite.specs.Schema.{Schema}
use Rattle.sqlite.specs.Files.{HoldsDatabase}
use Rattle.sqlite.specs.State.{State}
use Rattle.farm_keeper.specs.Keeping.{HasKept}
use Rattle.farm_keeper.specs.Rows.{Rows}
use Rattle.keeper_sqlite.specs.Table.{no_schema, rows_schema}
use Rattle.keeper_sqlite.specs.Told.{Holds, Leaves, told}

-- the rows are those that the database tells: those of its table, or none where its schema is empty
pub record IsToldBy (db : Trees) (rows : Rows) : Type 0 where
  pub schema : Schema
  pub sound : IsSound schema db
  pub are : ((schema ≡ no_schema) × (rows ≡ empty)) ⊎ ((schema ≡ rows_schema) × (rows ≡ told (db 0)))

-- a keeper over these files holds the rows of the database that they held, and a stop leaves these and nothing else
abbrev pub HasKeptFile : Image → State → Type 0
HasKeptFile image s = (rows : Rows) × ((db : Trees) → HoldsDatabase image db → IsToldBy db rows) × HasKept (Holds s) (Leaves s) rows []
