-- How a farm is opened: begun over a keeper that has it, or not.
use Rattle.std.proofs.Common.{◌≡◌, ◌⊎◌, ℕ, Bool, true, false, refl, sym, ap, subst, List, [], take, inl, inr, Result, Ok, Err, ◌∙◌}
use Rattle.farm_types.specs.Farm.{Farm}
use Rattle.farm_types.specs.Run.{IsLegal, run_of}
use Rattle.farm_keeper.specs.declared.fault.KeeperFault.{KeeperFault}
use Rattle.farm_keeper.specs.declared.fault.KeeperFault.TheVariants as keeper_fault
use Rattle.farm_keeper.specs.declared.row.Row.{Row}
use Rattle.fault_counts.specs.Counts.{HasRisen, incremented_if}
use Rattle.farm_keeper.specs.Faults.{is_failed}
use Rattle.farm_keeper.specs.Keeping.{Continues, Keeps}
use Rattle.farm_keeper.specs.Rows.{Lists, Rows}
use Rattle.farm_load.specs.recorder.specs.declared.refusal.RecordFault.{RecordFault}
use Rattle.farm_load.specs.recorder.specs.declared.refusal.RecordFault.TheVariants as record_fault
use Rattle.farm_load.specs.recorder.specs.Faults as recorded
use Rattle.farm_load.specs.booking_recorder.specs.Going.{Journals}
use Rattle.farm_load.specs.booking_recorder.specs.Recording.{Recording}
use Rattle.recovery.specs.declared.fault.RecoverFault.{RecoverFault}
use Rattle.recovery.specs.declared.fault.RecoverFault.TheVariants as recover_fault
use Rattle.recovery.specs.declared.recovering.Recovered.{Recovered}
use Rattle.recovery.specs.Migration.{HasOldRows, HasRows}
use Rattle.recovery.specs.Recovered.{IsRecovered, recovered}
use Rattle.farm_rows.specs.declared.head_row.TheConstants.{ROW_FORMAT}
use Rattle.farm_rows.specs.Recovery.{Said}
use Rattle.farm_rows.specs.Rows.{HasRowsIn}
use Rattle.store_law.specs.Stored.{stored_in}
use Rattle.session.specs.declared.opening.OpenFault.{OpenFault}
use Rattle.session.specs.declared.opening.OpenFault.TheVariants as fault
use Rattle.session.specs.declared.opening.Opening.{Opening}
use Rattle.session.specs.declared.opening.Opening.TheVariants as opening
use Rattle.session.specs.Opening.{Begins, BeginsBad, BeginsIn, BeginsWith, HasFailed, HasRecovered, HoldsFarm, IsLoadFault, IsLeftOld, IsLoaded, IsPartOpened, IsRecordFault, IsUnmigrated, IsUntouched, MigratesFrom, Opens, SaysFault, is_of_store, is_store_failure, of_keeper, of_record, of_recovery}
use Rattle.session.specs.Words.{WordForm, Demo, IsScript, Load, Script, opening_entries}
use Rattle.fault_counts.proofs.CountLaws.{HasRisen-incremented}
use Rattle.farm_keeper.proofs.KeepingLaws.{Continues-same, Continues-then}
use Rattle.session.specs.Seats.{IsBegun}
use Rattle.session.proofs.OpenedStore.{says_list}
use Rattle.session.proofs.SeatLemmas.{begun_more}

-- a keeper on which nothing was done
pub untouched : (held left : Rows → Type 0) → IsUntouched held left held left
untouched held left = record { held_still = λ rows there. there; left_still = λ rows there. there }

-- the count of a keeper went up where its store failed
pub failed_risen : {K : Type 0} (tells : K → Type 0) (faults : K → ℕ) (before now : K) (why : OpenFault) → Continues tells faults before now (is_of_store why)
    → is_of_store why ≡ true → HasRisen (faults before) (faults now)
failed_risen tells faults before now why goes is =
    HasRisen-incremented (faults before) (faults now) (goes.counted ∙ ap (λ (failed : Bool). incremented_if failed (faults before)) is)

-- ---- the recording of the opening

part_failed : (bad : RecoverFault → Type 0) (untouched old part : Type 0) (why : OpenFault) → IsRecordFault why → old ⊎ part → HasFailed why bad untouched old part
part_failed bad untouched old part fault.Store is either = inr either
part_failed bad untouched old part (fault.Bad why) is either = absurd is
part_failed bad untouched old part fault.NoMemory is either = inr either

-- where a keeper that tells now told before, what it held says the same
begins_said : (form : WordForm) (told_then told_now : Type 0) (held : Rows → Type 0) (f : Farm) → (told_now → told_then) → BeginsWith form told_then held f
    → BeginsWith form told_now held f
begins_said Demo told_then told_now held f told is = is
begins_said (Script store) told_then told_now held f told says = λ tells. says (told tells)
begins_said (Load n) told_then told_now held f told is = is

-- the rows of the farm that they say weren't migrated
abbrev LeftOld : {K : Type 0} → (K → Type 0) → (K → Rows → Type 0) → (K → Rows → Type 0) → WordForm → K → K → Type 0
LeftOld tells held left form old now = IsLeftOld (BeginsWith form (tells now) (held old)) (λ (f : Farm). tells now → IsUnmigrated (held old) (held now) (left now) f)

-- Over a later keeper with the farm with which the words begin over the first one, the opening's recording opens that farm of the first one.
pub begun_at : {K N : Type 0} (tells : K → Type 0) (held left : K → Rows → Type 0) (faults : K → ℕ) (form : WordForm) (moment : ℕ) (old k : K) (first : Farm)
    → BeginsWith form (tells k) (held old) first → Continues tells faults old k false → IsLegal first (opening_entries form moment)
    → (result : Opening K N) → Begins tells held left faults form moment first k result → Opens tells held left faults form moment old result
begun_at tells held left faults form moment old k first says goes legal (opening.Opened r) begins = (
  record {
    first = first;
    said = begins_said form (tells k) (tells r.keeper) (held old) first begins.1.told says;
    legal = legal;
    farm_is = begins.0;
    begun = begins.2;
  },
  Continues-then tells faults old k r.keeper false goes begins.1,
)
begun_at tells held left faults form moment old k first says goes legal (opening.Failed now why) begins = (
  part_failed (BeginsBad form (tells now) (held old)) (tells now → IsUntouched (held old) (left old) (held now) (left now)) (LeftOld tells held left form old now)
      (IsPartOpened (BeginsWith form (tells now) (held old)) (HoldsFarm (tells now) (held now) (left now)) form moment) why begins.1
      (inr (record {
        first = first;
        done = begins.0.0;
        said = begins_said form (tells k) (tells now) (held old) first begins.2.told says;
        legal = legal;
        held = begins.0.1;
      })),
  Continues-then tells faults old k now (is_of_store why) goes begins.2,
)

record_fault_of : (fault : RecordFault) → IsRecordFault (of_record fault)
record_fault_of record_fault.Store = tt
record_fault_of record_fault.NoMemory = tt

record_failed : (fault : RecordFault) → recorded.is_of_store fault ≡ is_of_store (of_record fault)
record_failed record_fault.Store = refl
record_failed record_fault.NoMemory = refl

-- what was recorded over the recorder that was made of a farm and its keeper
module _ {K : Type 0} (tells : K → Type 0) (held left : K → Rows → Type 0) (faults : K → ℕ) (form : WordForm) (moment : ℕ) (first : Farm) (old : K) (made r : Recording K)
    (farm_is : made.farm ≡ first) (keeper_is : made.keeper ≡ old) where
  pub begun_whole : IsBegun made.view first [] → r.farm ≡ run_of made.farm (opening_entries form moment) → Journals made.view r.view (opening_entries form moment)
      → Continues tells faults made.keeper r.keeper false → Begins {K = K} {N = Unit {0}} tells held left faults form moment first old (opening.Opened r)
  begun_whole begun is more goes = (
    is ∙ ap (λ (f : Farm). run_of f (opening_entries form moment)) farm_is,
    subst (λ (k : K). Continues tells faults k r.keeper false) keeper_is goes,
    begun_more made.view r.view first (opening_entries form moment) begun more,
  )

  -- a part of it, at whose end the keeper is given back
  pub begun_part : (now : K) (fault : RecordFault) (why : OpenFault) → why ≡ of_record fault → (done : ℕ) × (r.farm ≡ run_of made.farm (take done (opening_entries form moment)))
      → now ≡ r.keeper → HoldsFarm (tells now) (held now) (left now) r.farm → Continues tells faults made.keeper r.keeper (recorded.is_of_store fault)
      → Begins {K = K} {N = Unit {0}} tells held left faults form moment first old (opening.Failed now why)
  begun_part now fault why said part given holds goes = (
    (
      part.0,
      subst (HoldsFarm (tells now) (held now) (left now)) (part.1 ∙ ap (λ (f : Farm). run_of f (take part.0 (opening_entries form moment))) farm_is) holds,
    ),
    subst IsRecordFault (sym said) (record_fault_of fault),
    subst (λ (k : K). Continues tells faults k now (is_of_store why)) keeper_is
        (subst (λ (k : K). Continues tells faults made.keeper k (is_of_store why)) (sym given)
        (subst (Continues tells faults made.keeper r.keeper) (record_failed fault ∙ sym (ap is_of_store said)) goes)),
  )

-- ---- no farm

-- no memory for a farm of no rows
pub unmade_opens : {K : Type 0} (tells : K → Type 0) (held left : K → Rows → Type 0) (faults : K → ℕ) (form : WordForm) (moment : ℕ) (old : K)
    → Opens {N = Unit {0}} tells held left faults form moment old (opening.Failed old fault.NoMemory)
unmade_opens tells held left faults form moment old = (inl (λ now. untouched (held old) (left old)), Continues-same tells faults old)

-- what the rows say is known of a keeper that tells, by the list of them
bad_loaded : (tells : Type 0) (held : Rows → Type 0) (list : List Row) (why : OpenFault) → (tells → (rows : Rows) → held rows → Lists list rows)
    → IsLoadFault why (λ bad. recovered list ≡ Err bad) ⊥ → IsLoadFault why (SaysFault tells held) (Unit {0})
bad_loaded tells held list fault.Store listed is = absurd is
bad_loaded tells held list (fault.Bad why) listed is = (says_list tells held list (Err why) listed is.0, is.1)
bad_loaded tells held list fault.NoMemory listed is = tt

pub rows_loaded : (tells : Type 0) (held : Rows → Type 0) (list : List Row) (r : Result Recovered OpenFault) → (tells → (rows : Rows) → held rows → Lists list rows)
    → HasRecovered (recovered list) r → IsLoaded tells held r
rows_loaded tells held list (Ok recovered) listed is = (list, listed, is)
rows_loaded tells held list (Err why) listed is = bad_loaded tells held list why listed is

-- rows were recovered, or not: no store failed
recovered_by : (said : Result Said RecoverFault) (why : OpenFault) → IsLoadFault why (λ bad. said ≡ Err bad) ⊥ → is_of_store why ≡ false
recovered_by said fault.Store is = absurd is
recovered_by said (fault.Bad why) is = refl
recovered_by said fault.NoMemory is = refl

pub no_store_failed : (said : Result Said RecoverFault) (r : Result Recovered OpenFault) → HasRecovered said r → is_store_failure r ≡ false
no_store_failed said (Ok recovered) is = refl
no_store_failed said (Err why) is = recovered_by said why is

pub not_loaded : (tells : Type 0) (held : Rows → Type 0) (why : KeeperFault) → IsLoadFault (of_keeper why) (SaysFault tells held) (Unit {0})
not_loaded tells held keeper_fault.Failed = tt
not_loaded tells held keeper_fault.NoMemory = tt

pub of_keeper_failed : (why : KeeperFault) → is_failed {T = List Row} (Err why) ≡ is_of_store (of_keeper why)
of_keeper_failed keeper_fault.Failed = refl
of_keeper_failed keeper_fault.NoMemory = refl

pub not_recovered : (said : Result Said RecoverFault) (why : RecoverFault) → IsRecovered said (Err why) → IsLoadFault (of_recovery why) (λ bad. said ≡ Err bad) ⊥
not_recovered said (recover_fault.BadBytes kind id) is = (is, tt)
not_recovered said (recover_fault.BreaksFarm kind id) is = (is, tt)
not_recovered said recover_fault.NoMemory is = tt

load_failed : (form : WordForm) (tells : Type 0) (held : Rows → Type 0) (untouched old part : Type 0) (why : OpenFault) → IsScript form
    → IsLoadFault why (SaysFault tells held) (Unit {0}) → untouched → HasFailed why (BeginsBad form tells held) untouched old part
load_failed form tells held untouched old part fault.Store script is still = inl still
load_failed (Script store) tells held untouched old part (fault.Bad why) script is still = (is.0, still, is.1)
load_failed Demo tells held untouched old part (fault.Bad why) script is still = absurd script
load_failed (Load n) tells held untouched old part (fault.Bad why) script is still = absurd script
load_failed form tells held untouched old part fault.NoMemory script is still = inl still

-- no farm came of the rows
pub unloaded_opens : {K : Type 0} (tells : K → Type 0) (held left : K → Rows → Type 0) (faults : K → ℕ) (form : WordForm) (moment : ℕ) (old now : K) (why : OpenFault)
    → IsScript form → IsLoadFault why (SaysFault (tells now) (held old)) (Unit {0}) → Continues tells faults old now (is_of_store why)
    → Keeps (held old) (held now) → Keeps (left now) (left old) → Opens {N = Unit {0}} tells held left faults form moment old (opening.Failed now why)
unloaded_opens tells held left faults form moment old now why script is goes keeps leaves = (
  load_failed form (tells now) (held old) (tells now → IsUntouched (held old) (left old) (held now) (left now)) (LeftOld tells held left form old now)
      (IsPartOpened (BeginsWith form (tells now) (held old)) (HoldsFarm (tells now) (held now) (left now)) form moment)
      why script is (λ now_is. record { held_still = keeps; left_still = leaves }),
  goes,
)

-- the farm of the rows of a store, as its words begin with it
pub script_begins : (form : WordForm) (tells : Type 0) (held : Rows → Type 0) (format : ℕ) (f : Farm) → IsScript form
    → (tells → (rows : Rows) → held rows → (list : List Row) → Lists list rows → recovered list ≡ Ok (record { farm = f; format = format })) → BeginsWith form tells held f
script_begins Demo tells held format f script says = absurd script
script_begins (Script store) tells held format f script says = λ told rows there list lists. (format, says told rows there list lists)
script_begins (Load n) tells held format f script says = absurd script

-- ---- rows of format 1

-- a format that rows have and that isn't the one in which they are written
pub format_old : (format : ℕ) (f : Farm) → HasRowsIn format f → (format ≡ ROW_FORMAT → ⊥) → (format ≡ 1) × HasRowsIn 1 f
format_old format f (inl is) other = absurd (other is)
format_old format f (inr has) other = (has.0, inr (refl, has.1, has.2))

-- rows as they are written stand
pub rows_stand : (format : ℕ) (holds left : Rows → Type 0) (f : Farm) → format ≡ ROW_FORMAT → HasRows holds left format f → HasRows holds left ROW_FORMAT f
rows_stand format holds left f is has = subst (λ (n : ℕ). HasRows holds left n f) is has

pub rows_migrated : (format : ℕ) (holds left holds' left' : Rows → Type 0) (f : Farm) → format ≡ 1 → (HasRows holds left 1 f → HasRows holds' left' ROW_FORMAT f)
    → HasRows holds left format f → HasRows holds' left' ROW_FORMAT f
rows_migrated format holds left holds' left' f is migrates has = migrates (subst (λ (n : ℕ). HasRows holds left n f) is has)

keeper_fault_of : (why : KeeperFault) → IsRecordFault (of_keeper why)
keeper_fault_of keeper_fault.Failed = tt
keeper_fault_of keeper_fault.NoMemory = tt

pub rows_unmigrated : (format : ℕ) (holds left holds' left' : Rows → Type 0) (f : Farm) (why : KeeperFault) (said : OpenFault) → said ≡ of_keeper why → format ≡ 1
    → (HasRows holds left 1 f → HasOldRows holds' left' f) → MigratesFrom format holds left holds' left' f (Err said)
rows_unmigrated format holds left holds' left' f why said says is stays = (is, subst IsRecordFault (sym says) (keeper_fault_of why), stays)

migration_failed : (why : KeeperFault) → is_failed {T = Unit {0}} (Err why) ≡ is_of_store (of_keeper why)
migration_failed keeper_fault.Failed = refl
migration_failed keeper_fault.NoMemory = refl

pub keeper_unmigrated : {K : Type 0} (tells : K → Type 0) (faults : K → ℕ) (before now : K) (why : KeeperFault) (said : OpenFault) → said ≡ of_keeper why
    → Continues tells faults before now (is_failed {T = Unit {0}} (Err why)) → Continues tells faults before now (is_of_store said)
keeper_unmigrated tells faults before now why said says goes = subst (Continues tells faults before now) (migration_failed why ∙ sym (ap is_of_store says)) goes

-- what was begun over a later keeper was begun over the one before it
pub begun_later : {K N : Type 0} (format : ℕ) (tells : K → Type 0) (held left : K → Rows → Type 0) (faults : K → ℕ) (form : WordForm) (moment : ℕ) (f : Farm) (old k : K)
    → Continues tells faults old k false → (result : Opening K N) → Begins tells held left faults form moment f k result
    → BeginsIn format tells held left faults form moment f old result
begun_later format tells held left faults form moment f old k goes (opening.Opened r) begins =
    inl (begins.0, Continues-then tells faults old k r.keeper false goes begins.1, begins.2)
begun_later format tells held left faults form moment f old k goes (opening.Failed now why) begins =
    inl (begins.0, begins.1, Continues-then tells faults old k now (is_of_store why) goes begins.2)

-- the rows weren't migrated
pub old_stays : {K : Type 0} (format : ℕ) (tells : K → Type 0) (held left : K → Rows → Type 0) (faults : K → ℕ) (form : WordForm) (moment : ℕ) (f : Farm) (old now : K) (why : OpenFault)
    → MigratesFrom format (held old) (left old) (held now) (left now) f (Err why) → (tells old → HasRows (held old) (left old) format f)
    → Continues tells faults old now (is_of_store why) → BeginsIn {N = Unit {0}} format tells held left faults form moment f old (opening.Failed now why)
old_stays format tells held left faults form moment f old now why unmigrated has goes = inr (
  unmigrated.0,
  unmigrated.1,
  λ told. unmigrated.2 (subst (λ (n : ℕ). HasRows (held old) (left old) n f) unmigrated.0 (has (goes.told told))),
  goes,
)

-- Over the keeper that was loaded, with the farm of its rows: the opening's recording opens that farm, or its rows weren't migrated.
pub recovered_opens : {K N : Type 0} (format : ℕ) (tells : K → Type 0) (held left : K → Rows → Type 0) (faults : K → ℕ) (form : WordForm) (moment : ℕ) (old k : K) (first : Farm)
    → BeginsWith form (tells k) (held old) first → Continues tells faults old k false → IsLegal first (opening_entries form moment) → HasRowsIn format first
    → (tells k → (rows : Rows) → held old rows → rows ≡ stored_in format first) → (result : Opening K N)
    → BeginsIn format tells held left faults form moment first k result → Opens tells held left faults form moment old result
recovered_opens format tells held left faults form moment old k first says goes legal has only result (inl begins) =
    begun_at tells held left faults form moment old k first says goes legal result begins
recovered_opens format tells held left faults form moment old k first says goes legal has only (opening.Opened r) (inr stays) = absurd stays
recovered_opens format tells held left faults form moment old k first says goes legal has only (opening.Failed now why) (inr stays) = (
  part_failed (BeginsBad form (tells now) (held old)) (tells now → IsUntouched (held old) (left old) (held now) (left now)) (LeftOld tells held left form old now)
      (IsPartOpened (BeginsWith form (tells now) (held old)) (HoldsFarm (tells now) (held now) (left now)) form moment) why stays.1
      (inl (record {
        first = first;
        said = begins_said form (tells k) (tells now) (held old) first stays.3.told says;
        left_old = λ told. record {
          of_format = subst (λ (n : ℕ). HasRowsIn n first) stays.0 has;
          held_still = λ rows there.
              subst (held now) (ap (λ (n : ℕ). stored_in n first) (sym stays.0) ∙ sym (only (stays.3.told told) rows there)) (stays.2 told).held;
          old_rows = stays.2 told;
        };
      })),
  Continues-then tells faults old k now (is_of_store why) goes stays.3,
)
