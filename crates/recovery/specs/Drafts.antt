-- A draft of rows: what becomes of it.
use Rattle.std.specs.Prelude.{◌≡◌, true, false, List, [], ◌∷◌, ◌++◌, Result, Ok, Err}
use Rattle.farm_types.specs.Farm.{Farm}
use Rattle.farm_rows.specs.declared.farm_row.FarmRow.{FarmRow}
use Rattle.farm_rows.specs.Recovery.{Said, StoredKey, farm_said, farm_with, key_of}
use Rattle.recovery.specs.declared.fault.DraftFault.{DraftFault}
use Rattle.recovery.specs.declared.fault.DraftFault.TheVariants as draft_fault
use Rattle.stored_rows.specs.Told.{Accepts, Told}

-- what these rows say after those of the draft, or the key of the row at fault
abbrev pub said_from : Told → List FarmRow → Result Said StoredKey
said_from t rows = farm_with t.format t.last t.farm rows

-- a farm as the draft's rows say it, in their format
abbrev pub said_as : Told → Farm → Said
said_as t f = record { farm = f; format = t.format }

-- the rows lead to the draft: with any rows after them they say what those say after it
abbrev pub LeadsTo : List FarmRow → Told → Type 0
LeadsTo rows t = (rest : List FarmRow) → farm_said (rows ++ rest) ≡ said_from t rest

-- some rows lead to it
abbrev pub IsReached : Told → Type 0
IsReached t = (rows : List FarmRow) × LeadsTo rows t

-- a row was added, or it broke the farm and nothing changed, unless memory ran out
abbrev pub IsAdded : Told → FarmRow → Told → Result (Unit {0}) DraftFault → Type 0
IsAdded old r new (Ok done) = Accepts true old r new
IsAdded old r new (Err (draft_fault.Breaks kind id)) = Accepts false old r new × ((kind, id) ≡ key_of r)
IsAdded old r new (Err draft_fault.NoMemory) = Unit {0}

-- the farm of a draft's rows, or the key of the row at fault, unless memory ran out
abbrev pub IsFinished : Told → Result Farm DraftFault → Type 0
IsFinished t (Ok f) = said_from t [] ≡ Ok (said_as t f)
IsFinished t (Err (draft_fault.Breaks kind id)) = said_from t [] ≡ Err (kind, id)
IsFinished t (Err draft_fault.NoMemory) = Unit {0}

-- Of rows that lead to a draft: with a row that was added they lead to what it is then, and with one that broke it they are at fault there, whatever comes after.
abbrev pub LeadsOn : Told → FarmRow → Told → Result (Unit {0}) DraftFault → Type 0
LeadsOn old r new (Ok done) = (rows : List FarmRow) → LeadsTo rows old → LeadsTo (rows ++ r ∷ []) new
LeadsOn old r new (Err (draft_fault.Breaks kind id)) = (rows rest : List FarmRow) → LeadsTo rows old → farm_said (rows ++ r ∷ rest) ≡ Err (kind, id)
LeadsOn old r new (Err draft_fault.NoMemory) = Unit {0}

-- the rows that lead to a draft say the farm, or have the row at fault
abbrev pub IsSaid : Told → Result Farm DraftFault → Type 0
IsSaid t (Ok f) = (rows : List FarmRow) → LeadsTo rows t → farm_said rows ≡ Ok (said_as t f)
IsSaid t (Err (draft_fault.Breaks kind id)) = (rows : List FarmRow) → LeadsTo rows t → farm_said rows ≡ Err (kind, id)
IsSaid t (Err draft_fault.NoMemory) = Unit {0}
