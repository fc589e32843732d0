-- The rows of a farm by their keys, and what changes of rows make of them.
use Rattle.std.specs.Prelude.{ℕ, ◌≡◌, ◌==◌, ◌&&◌, Bool, true, false, List, [], ◌∷◌, find, is_some, Option, None, Some, option_and_then, option_map, slice_get, if◌then◌else◌}
use Rattle.std.specs.List.{list_any}
use Rattle.farm_types.specs.declared.depend.DependRow.{DependRow}
use Rattle.farm_types.specs.declared.depend.MetRow.{MetRow}
use Rattle.farm_types.specs.declared.slot_row.SlotRow.{SlotRow}
use Rattle.farm_types.specs.Farm.{Farm, job_at, layer_at, sub_at}
use Rattle.farm_rows.specs.declared.farm_row.FarmRow.{FarmRow}
use Rattle.farm_rows.specs.declared.farm_row.FarmRow.TheVariants as row
use Rattle.farm_rows.specs.declared.row_key.RowKey.{RowKey}
use Rattle.farm_rows.specs.declared.row_key.RowKey.TheVariants as key
use Rattle.farm_rows.specs.declared.row_change.RowChange.{RowChange}
use Rattle.farm_rows.specs.declared.row_change.RowChange.TheVariants as change
use Rattle.farm_rows.specs.Rows.{frame_row, head_row, is_unused}

-- ---- keys

abbrev pub row_key : FarmRow → RowKey
row_key (row.Head head) = key.Head
row_key (row.Show show r) = key.Show show
row_key (row.Alloc alloc r) = key.Alloc alloc
row_key (row.Sub r) = key.Sub r.sub
row_key (row.Host host r) = key.Host host
row_key (row.Job r) = key.Job r.job
row_key (row.Layer r) = key.Layer r.job r.place
row_key (row.Frame r) = key.Frame r.slot
row_key (row.Depend r) = key.Depend r.depend
row_key (row.Met r) = key.Met r.depend r.position
row_key (row.Limit limit r) = key.Limit limit

abbrev pub is_key : RowKey → RowKey → Bool
is_key key.Head key.Head = true
is_key (key.Show a) (key.Show b) = a == b
is_key (key.Alloc a) (key.Alloc b) = a == b
is_key (key.Sub a) (key.Sub b) = a == b
is_key (key.Host a) (key.Host b) = a == b
is_key (key.Job a) (key.Job b) = a == b
is_key (key.Layer a m) (key.Layer b n) = a == b && m == n
is_key (key.Frame a) (key.Frame b) = a == b
is_key (key.Depend a) (key.Depend b) = a == b
is_key (key.Met a m) (key.Met b n) = a == b && m == n
is_key (key.Limit a) (key.Limit b) = a == b
is_key a b = false

-- ---- the rows of a farm

-- the row of a slot that was used
abbrev pub used_row : ℕ → SlotRow → Option FarmRow
used_row slot s = if is_unused s then None else Some (row.Frame (frame_row slot s))

abbrev pub is_mark : ℕ → ℕ → MetRow → Bool
is_mark depend position m = m.depend == depend && m.position == position

-- the row of that key: the farm's own where an entry made it, each other where its lists have it
abbrev pub row_at : Farm → RowKey → Option FarmRow
row_at f key.Head = if f.recorded then Some (row.Head (head_row f)) else None
row_at f (key.Show show) = option_map (row.Show show) (slice_get f.shows show)
row_at f (key.Alloc alloc) = option_map (row.Alloc alloc) (slice_get f.allocs alloc)
row_at f (key.Sub sub) = option_map row.Sub (sub_at f sub)
row_at f (key.Host host) = option_map (row.Host host) (slice_get f.hosts host)
row_at f (key.Job job) = option_map row.Job (job_at f job)
row_at f (key.Layer job place) = option_map row.Layer (layer_at f job place)
row_at f (key.Frame slot) = option_and_then (used_row slot) (slice_get f.slots slot)
row_at f (key.Depend depend) = option_map row.Depend (find (λ (d : DependRow). d.depend == depend) f.depends)
row_at f (key.Met depend position) = if list_any (is_mark depend position) f.met then Some (row.Met (record { depend = depend; position = position })) else None
row_at f (key.Limit limit) = option_map (row.Limit limit) (slice_get f.limits limit)

-- ---- changes one after the other

-- what one change makes of the row of a key
abbrev pub row_by : RowChange → RowKey → Option FarmRow → Option FarmRow
row_by (change.Put r) k old = if is_key (row_key r) k then Some r else old
row_by (change.Delete gone) k old = if is_key gone k then None else old

abbrev pub row_after : List RowChange → RowKey → Option FarmRow → Option FarmRow
row_after [] k old = old
row_after (c ∷ cs) k old = row_after cs k (row_by c k old)

abbrev pub is_head : RowKey → Bool
is_head key.Head = true
is_head other = false

-- one after the other, the changes make the rows of the one farm into those of the other, but for the farm's own
abbrev pub MakesRows : Farm → Farm → List RowChange → Type 0
MakesRows f g cs = (k : RowKey) → is_head k ≡ false → row_at g k ≡ row_after cs k (row_at f k)

-- the farm beside other depends and marks
abbrev pub beside : Farm → List DependRow → List MetRow → ℕ → Farm
beside f depends met next = record f { depends = depends; met = met; next_depend = next }

-- the same of farms whose depends and marks are alike, whatever they are
abbrev pub MakesBookRows : Farm → Farm → List RowChange → Type 0
MakesBookRows f g cs = (depends : List DependRow) (met : List MetRow) (next : ℕ) → MakesRows (beside f depends met next) (beside g depends met next) cs

-- the change of a slot that gets that row: a slot that was never used has none
abbrev pub slot_change : ℕ → SlotRow → RowChange
slot_change slot s = if is_unused s then change.Delete (key.Frame slot) else change.Put (row.Frame (frame_row slot s))

-- ---- exactly the rows that differ

abbrev pub change_key : RowChange → RowKey
change_key (change.Put r) = row_key r
change_key (change.Delete gone) = gone

-- the change of the key's row from the one to the other
abbrev pub Differs : RowChange → Option FarmRow → Option FarmRow → Type 0
Differs (change.Put r) old now = (now ≡ Some r) × (old ≡ Some r → ⊥)
Differs (change.Delete gone) old now = (now ≡ None) × (is_some old ≡ true)

-- so many changes name a key
abbrev pub is_named_by : RowKey → RowChange → Bool
is_named_by k c = is_key (change_key c) k

-- the changes name each row in which the farms differ, once, and no other
pub record NamesExactly (f g : Farm) (cs : List RowChange) : Type 0 where
  pub rest : (k : RowKey) → list_any (is_named_by k) cs ≡ false → row_at g k ≡ row_at f k
  pub each : (n : ℕ) (c : RowChange) → slice_get cs n ≡ Some c → Differs c (row_at f (change_key c)) (row_at g (change_key c))
  pub once : (n m : ℕ) (c d : RowChange) → slice_get cs n ≡ Some c → slice_get cs m ≡ Some d → is_key (change_key c) (change_key d) ≡ true → n ≡ m
