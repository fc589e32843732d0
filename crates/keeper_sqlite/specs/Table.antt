-- The one table, and a schema that has nothing else.
use Rattle.std.specs.Prelude.{◌≡◌, ℕ, List, true, false, [], ◌∷◌, None, codes}
use Rattle.sqlite.specs.Collation.TheVariants.{Binary}
use Rattle.sqlite_value.specs.declared.value.Value.TheVariants.{Null}
use Rattle.sqlite_value.specs.Keys.{plain}
use Rattle.sqlite.specs.Table.{Table}
use Rattle.sqlite.specs.Schema.{Schema}
use Rattle.sqlite_schema.specs.declared.schema.Column.{Column}
use Rattle.sqlite_schema.specs.declared.schema.Index.{Index}
use Rattle.sqlite_schema.specs.declared.schema.Kind.{Kind}
use Rattle.sqlite.specs.Kind.TheVariants.{Integer, Blob}
use Rattle.sqlite.specs.Change.{created}

-- a column that takes values of its type alone, and no NULL
abbrev pub column_of : List ℕ → Kind → Column
column_of name kind = record { name = name; kind = kind; is_strict = true; not_null = true; default = Null; collation = Binary }

abbrev pub rows_table : Table
rows_table = record {
  name = codes "rows";
  tree = 0;
  columns = column_of (codes "kind") Integer ∷ column_of (codes "id") Integer ∷ column_of (codes "bytes") Blob ∷ [];
  key = None;
  primary = 1 ∷ 2 ∷ [];
  uniques = (1 ∷ 2 ∷ []) ∷ [];
  orders = plain ∷ [];
  checks = [];
  references = [];
  computed = [];
  stamps = record { places = []; terms = []; formats = [] };
  is_counted = false;
}

abbrev pub no_schema : Schema
no_schema = record { tables = []; indexes = []; views = [] }

-- the table with the index of its key
abbrev pub rows_schema : Schema
rows_schema = created no_schema rows_table

-- the index of the key
abbrev pub rows_index : Index
rows_index = record { name = codes "sqlite_autoindex_rows_1"; tree = 1; table = 0; columns = 1 ∷ 2 ∷ []; order = plain; is_unique = true }

-- the table has our key
pub record HasKey (table : Table) : Type 0 where
  pub key : table.key ≡ None
  pub primary : table.primary ≡ 1 ∷ 2 ∷ []
  pub uniques : table.uniques ≡ (1 ∷ 2 ∷ []) ∷ []
  pub orders : table.orders ≡ plain ∷ []

-- the table has no more rules than its columns and its key
pub record HasNoRules (table : Table) : Type 0 where
  pub checks : table.checks ≡ []
  pub references : table.references ≡ []
  pub computed : table.computed ≡ []
  pub places : table.stamps.places ≡ []
  pub terms : table.stamps.terms ≡ []
  pub formats : table.stamps.formats ≡ []
  pub uncounted : table.is_counted ≡ false
