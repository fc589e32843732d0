-- A farm with its keeper: the keeper holds the farm's rows, and a stop leaves them, or those of the farm one entry further.
use Rattle.std.specs.Prelude.{ℕ, ◌≡◌, ◌≢◌, ◌⊎◌, List, [], ◌∷◌, None, Result, Ok, Err}
use Rattle.farm_types.specs.declared.entry.Act.TheVariants as act
use Rattle.farm_types.specs.declared.entry.Entry.{Entry}
use Rattle.farm_types.specs.Farm.{Farm}
use Rattle.farm_types.specs.Run.{IsLegalStep}
use Rattle.farm_types.specs.Step.{after, refusal_of}
use Rattle.farm_rows.specs.Rows.{rows_of}
use Rattle.farm_keeper.specs.Keeping.{Keeps}
use Rattle.farm_keeper.specs.Rows.{Rows}
use Rattle.farm_core.specs.Change.{Makes}
use Rattle.farm_core.specs.declared.change.Change.{Change}
use Rattle.store_law.specs.Stored.{stored}
use Rattle.recorder.specs.declared.refusal.RecordFault.{RecordFault}
use Rattle.recorder.specs.declared.refusal.RecordFault.TheVariants as fault

pub record Recording (K : Type 0) : Type 0 where
  pub farm : Farm
  pub keeper : K

-- ---- what the keeper has

-- the rows are those of a farm that a legal entry makes of this one
pub record IsOneFurther (f : Farm) (rows : Rows) : Type 0 where
  pub entry : Entry
  pub legal : IsLegalStep f entry
  pub rows_are : rows ≡ stored (after f entry)

abbrev pub MayBe : Farm → Rows → Type 0
MayBe f rows = (rows ≡ stored f) ⊎ IsOneFurther f rows

-- the keeper holds the farm's rows, and a stop leaves these or those of the farm one legal entry further
pub record HasRecorded (holds left : Rows → Type 0) (f : Farm) : Type 0 where
  pub held : holds (stored f)
  pub remains : Keeps left (MayBe f)

-- ---- recording

-- the change is that of the entry, which is legal
pub record IsOfEntry (f : Farm) (e : Entry) (change : Change) : Type 0 where
  pub legal : IsLegalStep f e
  pub makes : Makes f e change

-- an entry makes another row, or takes one away
abbrev pub ChangesRows : Farm → Farm → Type 0
ChangesRows f g = rows_of f ≢ rows_of g

-- each row is as it was
abbrev pub HasSameRows : Farm → Farm → Type 0
HasSameRows f g = rows_of f ≡ rows_of g

-- none of the entries, each after those before it, makes another row or takes one away
abbrev pub ChangesNone : Farm → List Entry → Type 0
ChangesNone f [] = Unit {0}
ChangesNone f (e ∷ es) = HasSameRows f (after f e) × ChangesNone (after f e) es

-- the farm refuses the entry, or it leaves each row as it is
abbrev pub IsUnstored : Farm → Entry → Type 0
IsUnstored f e = refusal_of f e ≡ None → HasSameRows f (after f e)

-- The store failed or memory ran out, and the farm is as before: the store fails only where a row changes
abbrev pub FailsToRecord : Farm → Farm → RecordFault → Farm → Type 0
FailsToRecord old changed fault.Store new = (new ≡ old) × ChangesRows old changed
FailsToRecord old changed fault.NoMemory new = new ≡ old

-- the farm is as the change makes it, or as before
abbrev pub Records : {T : Type 0} → Farm → Farm → Result T RecordFault → Farm → Type 0
Records old changed (Ok _) new = new ≡ changed
Records old changed (Err why) new = FailsToRecord old changed why new

-- a keeper that has recorded the farm has recorded it still: the store fails only where a row changes
abbrev pub StaysAtFault : (holds left holds' left' : Rows → Type 0) → Farm → Entry → RecordFault → Type 0
StaysAtFault holds left holds' left' f e fault.Store = ChangesRows f (after f e) × (HasRecorded holds left f → HasRecorded holds' left' f)
StaysAtFault holds left holds' left' f e fault.NoMemory = HasRecorded holds left f → HasRecorded holds' left' f

-- a keeper that has recorded the farm has recorded the farm with the entry, or still this one
abbrev pub StaysRecorded : {T : Type 0} → (holds left holds' left' : Rows → Type 0) → Farm → Entry → Result T RecordFault → Type 0
StaysRecorded holds left holds' left' f e (Ok _) = HasRecorded holds left f → HasRecorded holds' left' (after f e)
StaysRecorded holds left holds' left' f e (Err why) = StaysAtFault holds left holds' left' f e why

-- an entry that books
abbrev pub booking : ℕ → ℕ → ℕ → Entry
booking slot host moment = record { moment = moment; act = act.Book slot host }
