-- How a farm is opened over a keeper.
use Rattle.std.specs.Prelude.{ℕ, ◌≡◌, ◌⊎◌, Bool, true, false, List, [], take, Result, Ok, Err}
use Rattle.std.specs.FinMap.{empty}
use Rattle.farm_types.specs.Farm.{Farm, empty_farm}
use Rattle.farm_types.specs.Run.{IsLegal, run_of}
use Rattle.farm_keeper.specs.declared.row.Row.{Row}
use Rattle.farm_keeper.specs.Keeping.{Continues, HasKept, Keeps}
use Rattle.farm_keeper.specs.Rows.{Lists, Rows}
use Rattle.farm_types.specs.declared.entry.Entry.{Entry}
use Rattle.farm_keeper.specs.declared.fault.KeeperFault.{KeeperFault}
use Rattle.farm_keeper.specs.declared.fault.KeeperFault.TheVariants as keeper_fault
use Rattle.farm_load.specs.recorder.specs.declared.refusal.RecordFault.{RecordFault}
use Rattle.farm_load.specs.recorder.specs.declared.refusal.RecordFault.TheVariants as record_fault
use Rattle.farm_load.specs.recorder.specs.Recording.{HasRecorded}
use Rattle.booking_rule.specs.declared.view.View.{View}
use Rattle.recording_core.specs.Machine.{IsBooking}
use Rattle.recovery.specs.declared.fault.RecoverFault.TheVariants as recover_fault
use Rattle.recovery.specs.declared.fault.RecoverFault.{RecoverFault}
use Rattle.recovery.specs.declared.recovering.Recovered.{Recovered}
use Rattle.recovery.specs.Recovered.{recovered}
use Rattle.recovery.specs.Migration.{HasOldRows, HasRows}
use Rattle.farm_rows.specs.declared.head_row.TheConstants.{ROW_FORMAT}
use Rattle.farm_rows.specs.Recovery.{Said}
use Rattle.farm_rows.specs.Rows.{HasRowsIn}
use Rattle.store_law.specs.Stored.{stored_in}
use Rattle.session.specs.declared.opening.OpenFault.{OpenFault}
use Rattle.session.specs.declared.opening.OpenFault.TheVariants as fault
use Rattle.session.specs.declared.opening.Opening.{Opening}
use Rattle.session.specs.declared.opening.Opening.TheVariants as opening
use Rattle.session.specs.Seats.{IsBegun}
use Rattle.session.specs.Words.{WordForm, Demo, Script, Load, opened_farm, opening_entries}

-- ---- what is known of a keeper

-- a store in which a farm may be opened: no commit was refused since the last one that was taken, and the demonstration and a load begin with no rows
abbrev pub MayOpen : WordForm → (Rows → Type 0) → (Rows → Type 0) → Type 0
MayOpen Demo held left = HasKept held left empty [] × ((rows : Rows) → held rows → rows ≡ empty)
MayOpen (Script store) held left = (rows : Rows) × HasKept held left rows []
MayOpen (Load n) held left = HasKept held left empty [] × ((rows : Rows) → held rows → rows ≡ empty)

-- the rows say the farm, in a format
abbrev pub AreOf : List Row → Farm → Type 0
AreOf list f = (format : ℕ) × (recovered list ≡ Ok (record { farm = f; format = format }))

-- the rows that were held say the farm, or why there is none, where the keeper tells the truth
abbrev pub Says : Type 0 → (Rows → Type 0) → Farm → Type 0
Says tells held f = tells → (rows : Rows) → held rows → (list : List Row) → Lists list rows → AreOf list f

abbrev pub SaysFault : Type 0 → (Rows → Type 0) → RecoverFault → Type 0
SaysFault tells held why = tells → (rows : Rows) → held rows → (list : List Row) → Lists list rows → recovered list ≡ Err why

-- the farm with which the words begin: that of the rows, or the empty one, for which no row is read; and why there is none
abbrev pub BeginsWith : WordForm → Type 0 → (Rows → Type 0) → Farm → Type 0
BeginsWith (Script store) tells held f = Says tells held f
BeginsWith other tells held f = f ≡ empty_farm

abbrev pub BeginsBad : WordForm → Type 0 → (Rows → Type 0) → RecoverFault → Type 0
BeginsBad (Script store) tells held why = SaysFault tells held why
BeginsBad other tells held why = ⊥

-- nothing was committed
pub record IsUntouched (held left held_now left_now : Rows → Type 0) : Type 0 where
  pub held_still : Keeps held held_now
  pub left_still : Keeps left_now left

-- A store of format 1 was to be migrated, and it wasn't: it holds the rows that it held, which are the farm's of that format, and a stop leaves these, or the
-- farm's rows as they are written.
pub record IsUnmigrated (held held_now left_now : Rows → Type 0) (f : Farm) : Type 0 where
  pub of_format : HasRowsIn 1 f
  pub held_still : Keeps held held_now
  pub old_rows : HasOldRows held_now left_now f

-- the keeper holds the farm, where it tells the truth
abbrev pub HoldsFarm : Type 0 → (Rows → Type 0) → (Rows → Type 0) → Farm → Type 0
HoldsFarm tells held left f = tells → HasRecorded held left f

-- ---- opening

-- whether it was the store that failed
abbrev pub is_of_store : OpenFault → Bool
is_of_store fault.Store = true
is_of_store other = false

abbrev pub is_store_failure : {T : Type 0} → Result T OpenFault → Bool
is_store_failure (Ok done) = false
is_store_failure (Err why) = is_of_store why

-- the store failed, or memory ran out
abbrev pub IsRecordFault : OpenFault → Type 0
IsRecordFault (fault.Bad why) = ⊥
IsRecordFault other = Unit {0}

-- entries were recorded in turn, all or the first of them
abbrev pub GoesThrough : {T : Type 0} → Farm → List Entry → Result T RecordFault → Farm → Type 0
GoesThrough old es (Ok _) new = new ≡ run_of old es
GoesThrough old es (Err fault) new = (done : ℕ) × (new ≡ run_of old (take done es))

-- the entry is no booking
abbrev pub IsUnbooked : Entry → Type 0
IsUnbooked e = IsBooking e.act → ⊥

-- why a keeper, its rows or the recording of an entry let no farm be opened
abbrev pub of_keeper : KeeperFault → OpenFault
of_keeper keeper_fault.Failed = fault.Store
of_keeper keeper_fault.NoMemory = fault.NoMemory

abbrev pub of_recovery : RecoverFault → OpenFault
of_recovery recover_fault.NoMemory = fault.NoMemory
of_recovery why = fault.Bad why

abbrev pub of_record : RecordFault → OpenFault
of_record record_fault.Store = fault.Store
of_record record_fault.NoMemory = fault.NoMemory

-- the opening of a farm over a keeper that holds it was recorded, and is the seat's journal; or a part of it was recorded
abbrev pub Begins : {K N : Type 0} → (K → Type 0) → (K → Rows → Type 0) → (K → Rows → Type 0) → (K → ℕ) → WordForm → ℕ → Farm → K → Opening K N
    → Type 0
Begins tells held left faults form moment first old (opening.Opened r) =
    (r.farm ≡ opened_farm form first moment) × Continues tells faults old r.keeper false × IsBegun r.view first (opening_entries form moment)
Begins tells held left faults form moment first old (opening.Failed now why) =
    ((done : ℕ) × HoldsFarm (tells now) (held now) (left now) (run_of first (take done (opening_entries form moment)))) × IsRecordFault why
    × Continues tells faults old now (is_of_store why)

-- the seat's journal begins with this farm, where one was opened
abbrev pub HasBegun : {K N : Type 0} → WordForm → ℕ → Farm → Opening K N → Type 0
HasBegun form moment first (opening.Opened r) = IsBegun r.view first (opening_entries form moment)
HasBegun form moment first (opening.Failed now why) = Unit {0}

-- the farm was opened: that of the rows, with the entries of the opening, which are a legal run, and are the seat's journal from the farm of the rows
pub record IsOpened (says : Farm → Type 0) (form : WordForm) (moment : ℕ) (farm : Farm) (view : View) : Type 0 where
  pub first : Farm
  pub said : says first
  pub legal : IsLegal first (opening_entries form moment)
  pub farm_is : farm ≡ opened_farm form first moment
  pub begun : IsBegun view first (opening_entries form moment)

-- the rows of the farm that they say were to be migrated, and they weren't
pub record IsLeftOld (says : Farm → Type 0) (unmigrated : Farm → Type 0) : Type 0 where
  pub first : Farm
  pub said : says first
  pub left_old : unmigrated first

-- it went so far: these entries are in the store
pub record IsPartOpened (says holds : Farm → Type 0) (form : WordForm) (moment : ℕ) : Type 0 where
  pub first : Farm
  pub done : ℕ
  pub said : says first
  pub legal : IsLegal first (opening_entries form moment)
  pub held : holds (run_of first (take done (opening_entries form moment)))

-- it is a row that is at fault
abbrev pub IsOfRow : RecoverFault → Type 0
IsOfRow (recover_fault.BadBytes kind id) = Unit {0}
IsOfRow (recover_fault.BreaksFarm kind id) = Unit {0}
IsOfRow recover_fault.NoMemory = ⊥

-- why the rows of a store gave no farm: it failed, they say none, or memory ran out
abbrev pub IsLoadFault : OpenFault → (RecoverFault → Type 0) → Type 0 → Type 0
IsLoadFault fault.Store bad failed = failed
IsLoadFault (fault.Bad why) bad failed = bad why × IsOfRow why
IsLoadFault fault.NoMemory bad failed = Unit {0}

-- rows were recovered as they say, unless memory ran out
abbrev pub HasRecovered : Result Said RecoverFault → Result Recovered OpenFault → Type 0
HasRecovered said (Ok r) = said ≡ Ok (record { farm = r.farm; format = r.format })
HasRecovered said (Err why) = IsLoadFault why (λ bad. said ≡ Err bad) ⊥

-- the rows that a keeper held were loaded, and give this farm; or they weren't, or give none
abbrev pub IsLoaded : Type 0 → (Rows → Type 0) → Result Recovered OpenFault → Type 0
IsLoaded tells held (Ok r) =
    (list : List Row) × (tells → (rows : Rows) → held rows → Lists list rows) × (recovered list ≡ Ok (record { farm = r.farm; format = r.format }))
IsLoaded tells held (Err why) = IsLoadFault why (SaysFault tells held) (Unit {0})

-- why it wasn't: the store failed; or its rows say no farm, and it is as it was; or memory ran out. Else nothing was done on it, or it wasn't migrated, or a
-- part of the opening is in it.
abbrev pub HasFailed : OpenFault → (RecoverFault → Type 0) → Type 0 → Type 0 → Type 0 → Type 0
HasFailed (fault.Bad why) bad untouched old part = bad why × untouched × IsOfRow why
HasFailed other bad untouched old part = untouched ⊎ (old ⊎ part)

-- A farm was opened, or not. The keeper's count of faults is one more where the store failed, and stands where it didn't; one that doesn't tell the truth
-- never does again.
abbrev pub Opens : {K N : Type 0} → (K → Type 0) → (K → Rows → Type 0) → (K → Rows → Type 0) → (K → ℕ) → WordForm → ℕ → K → Opening K N → Type 0
Opens tells held left faults form moment old (opening.Opened r) =
    IsOpened (BeginsWith form (tells r.keeper) (held old)) form moment r.farm r.view × Continues tells faults old r.keeper false
Opens tells held left faults form moment old (opening.Failed now why) =
    HasFailed why (BeginsBad form (tells now) (held old)) (tells now → IsUntouched (held old) (left old) (held now) (left now))
    (IsLeftOld (BeginsWith form (tells now) (held old)) (λ f. tells now → IsUnmigrated (held old) (held now) (left now) f))
    (IsPartOpened (BeginsWith form (tells now) (held old)) (HoldsFarm (tells now) (held now) (left now)) form moment)
    × Continues tells faults old now (is_of_store why)

-- ---- loading a store

-- The farm was loaded of a keeper, which then is another one: where that tells the truth, the rows that were held say this farm in this format, and are its rows,
-- and it has them still.
pub record IsLoadedFrom {K : Type 0} (tells : K → Type 0) (holds left : K → Rows → Type 0) (faults : K → ℕ) (given : K) (f : Farm) (format : ℕ) (now : K)
    : Type 0 where
  pub goes : Continues tells faults given now false
  pub said : tells now → (rows : Rows) → holds given rows → (list : List Row) → Lists list rows → recovered list ≡ Ok (record { farm = f; format = format })
  pub of_format : HasRowsIn format f
  pub only : tells now → (rows : Rows) → holds given rows → rows ≡ stored_in format f
  pub kept : tells now → HasRows (holds now) (left now) format f

-- the farm that the rows of any store say was loaded; or none can be opened
abbrev pub Loads : {K : Type 0} → (K → Type 0) → (K → Rows → Type 0) → (K → Rows → Type 0) → (K → ℕ) → K → Result Recovered OpenFault → K → Type 0
Loads tells holds left faults given (Ok r) now = IsLoadedFrom tells holds left faults given r.farm r.format now
Loads tells holds left faults given (Err why) now =
    (store : List ℕ) (moment : ℕ) → Opens {N = Unit {0}} tells holds left faults (Script store) moment given (opening.Failed now why)

-- ---- migration

-- A keeper that had the farm's rows in this format has them in that in which rows are written; or the format is 1, the store failed or memory ran out, and
-- one that had them has them still.
abbrev pub MigratesFrom : ℕ → (holds left holds' left' : Rows → Type 0) → Farm → Result (Unit {0}) OpenFault → Type 0
MigratesFrom format holds left holds' left' f (Ok done) = HasRows holds left format f → HasRows holds' left' ROW_FORMAT f
MigratesFrom format holds left holds' left' f (Err why) = (format ≡ 1) × IsRecordFault why × (HasRows holds left 1 f → HasOldRows holds' left' f)

-- the rows of format 1 weren't migrated
abbrev pub StaysOld : {K N : Type 0} → ℕ → (K → Type 0) → (K → Rows → Type 0) → (K → Rows → Type 0) → (K → ℕ) → Farm → K → Opening K N → Type 0
StaysOld format tells holds left faults f old (opening.Opened r) = ⊥
StaysOld format tells holds left faults f old (opening.Failed now why) =
    (format ≡ 1) × IsRecordFault why × (tells now → HasOldRows (holds now) (left now) f) × Continues tells faults old now (is_of_store why)

-- the opening of a farm over a keeper that had its rows in a format was recorded, or a part of it; or these weren't migrated
abbrev pub BeginsIn : {K N : Type 0} → ℕ → (K → Type 0) → (K → Rows → Type 0) → (K → Rows → Type 0) → (K → ℕ) → WordForm → ℕ → Farm → K → Opening K N → Type 0
BeginsIn format tells holds left faults form moment f old result =
    Begins tells holds left faults form moment f old result ⊎ StaysOld format tells holds left faults f old result
