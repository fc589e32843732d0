-- The words that the program is given, and the farm that they open.
use Rattle.std.specs.Prelude.{ℕ, Bool, true, false, List, [], ◌∷◌, codes, bytes_eq, Option, None, Some, option_map, option_and_then, if◌then◌else◌}
use Rattle.farm_types.specs.declared.entry.Entry.{Entry}
use Rattle.farm_types.specs.declared.entry.Act.TheVariants as act
use Rattle.farm_types.specs.Farm.{Farm}
use Rattle.farm_types.specs.Forms.{is_between}
use Rattle.farm_types.specs.Run.{run_of}
use Rattle.farm_gen.specs.Load.{IsLoad, load_entries}
use Rattle.farm_gen.specs.declared.limits.TheConstants.{MOST_LOAD}
use Rattle.farm_lines.specs.Points.{number_of}
use Rattle.farm_law.specs.DemoRun.{demo_entries}
use Rattle.session.specs.declared.words.Form.{Form}
use Rattle.session.specs.declared.words.Form.TheVariants as form

-- what words ask for: the farm of the demonstration, the farm of a store, or a load of so many frames a layer
pub data WordForm : Type 0 where
  Demo : WordForm
  Script : List ℕ → WordForm
  Load : ℕ → WordForm

-- the code's form
abbrev pub word_form : Form → WordForm
word_form form.Demo = Demo
word_form (form.Script store) = Script store.now
word_form (form.Load n) = Load n

-- the number of 1 to 10 digits, where it is one between these
abbrev pub checked_between : ℕ → ℕ → ℕ → Option ℕ
checked_between least most n = if is_between least most n then Some n else None

abbrev pub number_between : ℕ → ℕ → List ℕ → Option ℕ
number_between least most text = option_and_then (checked_between least most) (number_of 10 text)

abbrev pub load_form : List ℕ → Option WordForm
load_form number = option_map Load (number_between 1 MOST_LOAD number)

-- any store but the empty word
abbrev pub script_form : List ℕ → Option WordForm
script_form store = if bytes_eq store (codes "") then None else Some (Script store)

-- the valid words: `demo`, `script` with a store, and `load` with a number from 1 to 5,000
abbrev pub form_of : List (List ℕ) → Option WordForm
form_of (word ∷ []) = if bytes_eq word (codes "demo") then Some Demo else None
form_of (word ∷ second ∷ []) =
    if bytes_eq word (codes "script") then script_form second
    else (if bytes_eq word (codes "load") then load_form second else None)
form_of words = None

-- the file of a store: any but the one in memory
abbrev pub file_at : List ℕ → Option (List ℕ)
file_at store = if bytes_eq store (codes ":memory:") then None else Some store

-- the file that keeps the farm
abbrev pub file_of : WordForm → Option (List ℕ)
file_of Demo = None
file_of (Script store) = file_at store
file_of (Load n) = None

-- the scheduler was opened at that moment
abbrev pub opened_entry : ℕ → Entry
opened_entry moment = record { moment = moment; act = act.Opened }

-- the moment at which the scheduler is opened, by the clock's first reading, which a load doesn't use
abbrev pub opened_at : WordForm → ℕ → ℕ
opened_at (Load n) moment = 0
opened_at other moment = moment

-- the entries of the opening: that of the scheduler, and those of the demonstration; those of a load are all at moment 0
abbrev pub opening_entries : WordForm → ℕ → List Entry
opening_entries Demo moment = opened_entry moment ∷ demo_entries moment
opening_entries (Script store) moment = opened_entry moment ∷ []
opening_entries (Load n) moment = opened_entry 0 ∷ load_entries n

-- the farm of the words as it is opened at a moment: that of the store, with the opening's entries
abbrev pub opened_farm : WordForm → Farm → ℕ → Farm
opened_farm form first moment = run_of first (opening_entries form moment)

-- they ask for the farm of a store
abbrev pub IsScript : WordForm → Type 0
IsScript (Script store) = Unit {0}
IsScript other = ⊥

-- they ask for a farm that is stated, over a store that begins empty
abbrev pub IsStated : WordForm → Type 0
IsStated (Script store) = ⊥
IsStated other = Unit {0}

-- they ask for a session of lines
abbrev pub TakesLines : WordForm → Type 0
TakesLines (Load n) = ⊥
TakesLines other = Unit {0}

abbrev pub is_load : Option WordForm → Bool
is_load (Some (Load n)) = true
is_load other = false

-- a load is one of 1 to 5,000 frames a layer
abbrev pub IsWithin : WordForm → Type 0
IsWithin (Load n) = IsLoad n
IsWithin other = Unit {0}
