-- The rows of farms in a store, under their kinds and ids.
use Rattle.std.specs.Prelude.{ℕ, ◌+◌, ◌*◌, Bool, true, false, List, [], ◌∷◌, filter, map}
use Rattle.farm_types.specs.Farm.{Farm}
use Rattle.farm_rows.specs.declared.farm_row.FarmRow.{FarmRow}
use Rattle.farm_rows.specs.declared.farm_row.FarmRow.TheVariants as row
use Rattle.farm_rows.specs.declared.head_row.TheConstants.{ROW_FORMAT}
use Rattle.farm_rows.specs.declared.ids.TheConstants.{GROUP_IDS, LAYER_IDS}
use Rattle.farm_rows.specs.declared.row_change.RowChange.{RowChange}
use Rattle.farm_rows.specs.declared.row_change.RowChange.TheVariants as change
use Rattle.farm_rows.specs.declared.row_key.RowKey.{RowKey}
use Rattle.farm_rows.specs.declared.row_key.RowKey.TheVariants as key
use Rattle.farm_rows.specs.Rows.{row_id, row_kind, rows_in, rows_of}
use Rattle.farm_keeper.specs.declared.row.Batch.{Batch}
use Rattle.farm_keeper.specs.declared.row.Row.{Row}
use Rattle.farm_keeper.specs.Rows.{Key, Rows, rows_from}
use Rattle.row_codec.specs.RowFields.{text_in}

-- ---- rows

-- the row's bytes in a format, and as it is written, under its kind and its id
abbrev pub stored_row_in : ℕ → FarmRow → Row
stored_row_in format r = record { kind = row_kind r; id = row_id r; bytes = text_in format r }

abbrev pub stored_row : FarmRow → Row
stored_row r = stored_row_in ROW_FORMAT r

-- the rows of a farm in a format, and as they are written, in order
abbrev pub stored_rows_in : ℕ → Farm → List Row
stored_rows_in format f = map (stored_row_in format) (rows_in format f)

abbrev pub stored_rows : Farm → List Row
stored_rows f = stored_rows_in ROW_FORMAT f

unfoldable pub stored_in : ℕ → Farm → Rows
stored_in format f = rows_from (stored_rows_in format f)

abbrev pub stored : Farm → Rows
stored f = stored_in ROW_FORMAT f

-- ---- changes

-- the kind and the id of a key
abbrev pub key_pair : RowKey → Key
key_pair key.Head = (1, 0)
key_pair (key.Show show) = (2, show)
key_pair (key.Alloc alloc) = (3, alloc)
key_pair (key.Sub sub) = (4, sub)
key_pair (key.Host host) = (5, host)
key_pair (key.Job job) = (6, job)
key_pair (key.Layer job place) = (7, LAYER_IDS * job + place)
key_pair (key.Frame slot) = (8, slot)
key_pair (key.Depend depend) = (9, depend)
key_pair (key.Met depend position) = (10, GROUP_IDS * depend + position)
key_pair (key.Limit limit) = (11, limit)

abbrev pub puts_in : List RowChange → List Row
puts_in [] = []
puts_in (change.Put r ∷ cs) = stored_row r ∷ puts_in cs
puts_in (change.Delete gone ∷ cs) = puts_in cs

abbrev pub deletes_in : List RowChange → List Key
deletes_in [] = []
deletes_in (change.Put r ∷ cs) = deletes_in cs
deletes_in (change.Delete gone ∷ cs) = key_pair gone ∷ deletes_in cs

-- the changes as a batch
abbrev pub batch_of : List RowChange → Batch
batch_of cs = record { puts = puts_in cs; deletes = deletes_in cs }

-- ---- migration

-- whether the row has another spelling in format 1: the farm's own has the format, and a layer's has no limit
abbrev pub is_migrated : FarmRow → Bool
is_migrated (row.Head head) = true
is_migrated (row.Layer r) = true
is_migrated other = false

-- the batch that makes the farm's rows of format 1 those of the format in which rows are written
abbrev pub migration : Farm → Batch
migration f = record { puts = map stored_row (filter is_migrated (rows_of f)); deletes = [] }
