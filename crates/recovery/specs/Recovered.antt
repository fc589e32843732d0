-- The farm of rows of bytes and their format, or why there is none.
use Rattle.std.specs.Prelude.{ℕ, ◌≡◌, ◌==◌, ◌&&◌, Bool, true, false, List, [], ◌∷◌, map, Option, None, Some, Result, Ok, Err, if◌then◌else◌}
use Rattle.farm_keeper.specs.declared.row.Row.{Row}
use Rattle.farm_types.specs.Farm.{Farm}
use Rattle.farm_rows.specs.declared.farm_row.FarmRow.{FarmRow}
use Rattle.farm_rows.specs.Recovery.{Said, StoredKey, end_fault, format_after, is_before, key_of, row_fits, with_stored}
use Rattle.farm_rows.specs.Rows.{row_id, row_kind, rows_in}
use Rattle.recovery.specs.declared.fault.RecoverFault.{RecoverFault}
use Rattle.recovery.specs.declared.recovering.Recovered.{Recovered}
use Rattle.recovery.specs.declared.fault.RecoverFault.TheVariants.{BadBytes, BreaksFarm, NoMemory}
use Rattle.row_codec.specs.RowFields.{text_in}
use Rattle.row_codec.specs.RowReading.{row_from}
use Rattle.stored_rows.specs.Told.{Accepts, Told, none_told}

abbrev pub given_key : Row → StoredKey
given_key r = (r.kind, r.id)

abbrev pub bad_bytes : StoredKey → RecoverFault
bad_bytes key = BadBytes key.0 key.1

abbrev pub breaks_farm : StoredKey → RecoverFault
breaks_farm key = BreaksFarm key.0 key.1

-- the first row is the farm's own, and each other one comes after the one before it
abbrev pub may_follow : Option StoredKey → StoredKey → Bool
may_follow None key = key.0 == 1 && key.1 == 0
may_follow (Some last) key = is_before last key

-- after the last row none may be at fault
abbrev pub all_ended : ℕ → Farm → Option StoredKey → Result Said RecoverFault
all_ended format f None = Ok (record { farm = f; format = format })
all_ended format f (Some key) = Err (breaks_farm key)

-- The row that bytes are in a format. A row of the farm's own kind is read as the farm's own whatever its id is, so that one of another id breaks the farm.
abbrev pub read_id : ℕ → ℕ → ℕ
read_id kind id = if kind == 1 then 0 else id

abbrev pub row_given : ℕ → Row → Option FarmRow
row_given format r = row_from format r.kind (read_id r.kind r.id) r.bytes

-- the bytes are a row of that id, which fits the farm so far
abbrev pub read_with : Option FarmRow → ℕ → Farm → StoredKey → (FarmRow → Result Said RecoverFault) → Result Said RecoverFault
read_with None format f key rest = Err (bad_bytes key)
read_with (Some r) format f key rest = if row_id r == key.1 && row_fits format f r then rest r else Err (breaks_farm key)

-- what rows say with those before them, which were of that format, or the first one at fault: each is read in the format that the rows before it say
abbrev pub recovered_with : ℕ → Option StoredKey → Farm → List Row → Result Said RecoverFault
recovered_with format last f [] = all_ended format f (end_fault f)
recovered_with format last f (r ∷ rs) =
    if may_follow last (given_key r)
    then read_with (row_given format r) format f (given_key r) (λ row. recovered_with (format_after format row) (Some (given_key r)) (with_stored f row) rs)
    else Err (breaks_farm (given_key r))

abbrev pub recovered_from : Told → List Row → Result Said RecoverFault
recovered_from t rows = recovered_with t.format t.last t.farm rows

-- the farm of a store's rows and their format, or the first row at fault
abbrev pub recovered : List Row → Result Said RecoverFault
recovered rows = recovered_from none_told rows

-- what was answered is what was said, unless memory ran out
abbrev pub IsRecovered : Result Said RecoverFault → Result Recovered RecoverFault → Type 0
IsRecovered said (Ok x) = said ≡ Ok (record { farm = x.farm; format = x.format })
IsRecovered said (Err (BadBytes kind id)) = said ≡ Err (BadBytes kind id)
IsRecovered said (Err (BreaksFarm kind id)) = said ≡ Err (BreaksFarm kind id)
IsRecovered said (Err NoMemory) = Unit {0}

-- a row was taken, so that what the rows after it say is what they say with it, or it is at fault, unless memory ran out
abbrev pub IsAccepted : Told → Row → Told → Result (Unit {0}) RecoverFault → Type 0
IsAccepted old r new (Ok done) = (rest : List Row) → recovered_from old (r ∷ rest) ≡ recovered_from new rest
IsAccepted old r new (Err (BadBytes kind id)) = (rest : List Row) → recovered_from old (r ∷ rest) ≡ Err (BadBytes kind id)
IsAccepted old r new (Err (BreaksFarm kind id)) = (rest : List Row) → recovered_from old (r ∷ rest) ≡ Err (BreaksFarm kind id)
IsAccepted old r new (Err NoMemory) = Unit {0}

-- the row that the bytes are, or there is none, unless memory ran out
abbrev pub IsRead : ℕ → Row → Result FarmRow RecoverFault → Type 0
IsRead format r (Ok x) = row_given format r ≡ Some x
IsRead format r (Err (BadBytes kind id)) = (row_given format r ≡ None) × (kind ≡ r.kind) × (id ≡ r.id)
IsRead format r (Err (BreaksFarm kind id)) = ⊥
IsRead format r (Err NoMemory) = Unit {0}

-- the row was added, or breaks the farm, unless memory ran out
abbrev pub IsJoined : Told → FarmRow → Told → Result (Unit {0}) RecoverFault → Type 0
IsJoined old r new (Ok done) = Accepts true old r new
IsJoined old r new (Err (BreaksFarm kind id)) = Accepts false old r new × ((kind, id) ≡ key_of r)
IsJoined old r new (Err (BadBytes kind id)) = ⊥
IsJoined old r new (Err NoMemory) = Unit {0}

-- a row with its kind, its id and its bytes in a format
abbrev pub spelled_row : ℕ → FarmRow → Row
spelled_row format r = record { kind = row_kind r; id = row_id r; bytes = text_in format r }

-- the rows that a farm has in a format
abbrev pub spelled_rows : ℕ → Farm → List Row
spelled_rows format f = map (spelled_row format) (rows_in format f)
