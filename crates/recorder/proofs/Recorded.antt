-- What a change and an entry that were recorded, or weren't, leave.
use Rattle.std.proofs.Common.{◌≡◌, ℕ, Bool, refl, sym, ap, subst, ◌∙◌, List, false, Result, Ok, Err, OnOk, IsErrAnd}
use Rattle.std.proofs.lemmas.Result.{err_from_is_err_and}
use Rattle.farm_types.specs.declared.entry.Entry.{Entry}
use Rattle.farm_types.specs.Farm.{Farm}
use Rattle.farm_types.specs.Step.{after}
use Rattle.farm_rows.specs.declared.row_change.RowChange.{RowChange}
use Rattle.farm_rows.specs.Changes.{NamesExactly}
use Rattle.farm_rows.specs.Rows.{rows_of}
use Rattle.farm_keeper.specs.declared.fault.KeeperFault.{KeeperFault}
use Rattle.farm_keeper.specs.declared.fault.KeeperFault.TheVariants as keeper_fault
use Rattle.farm_keeper.specs.Faults.{is_store_failure}
use Rattle.farm_keeper.specs.Keeping.{Continues}
use Rattle.farm_keeper.proofs.KeepingLaws.{Continues-as, Continues-same}
use Rattle.farm_keeper.specs.Rows.{Rows}
use Rattle.farm_books.specs.declared.begin.Booking.{Booking}
use Rattle.farm_books.specs.Bookings.{IsAsked}
use Rattle.farm_core.specs.declared.change.Change.{Change}
use Rattle.farm_core.specs.Change.{IsReserved, Makes, after_change, reserved_of}
use Rattle.recorder.specs.declared.refusal.RecordFault.{RecordFault}
use Rattle.recorder.specs.declared.refusal.RecordFault.TheVariants as fault
use Rattle.recorder.specs.Faults.{is_of_store, is_store_fault, of_keeper}
use Rattle.recorder.specs.Recording.{FailsToRecord, HasRecorded, HasSameRows, Recording, Records, StaysAtFault, StaysRecorded}

-- ---- the parts of a recorder

pub farm_is : {K : Type 0} {a b : Recording K} → a ≡ b → a.farm ≡ b.farm
farm_is {K = K} is = ap (λ (r : Recording K). r.farm) is

pub keeper_is : {K : Type 0} {a b : Recording K} → a ≡ b → a.keeper ≡ b.keeper
keeper_is {K = K} is = ap (λ (r : Recording K). r.keeper) is

-- as the keeper that was held goes on, so does the recorder's
pub goes_of : {K : Type 0} {a b : Recording K} (tells : K → Type 0) (faults : K → ℕ) (k : K) (failed : Bool) → a ≡ b → Continues tells faults a.keeper k failed
    → Continues tells faults b.keeper k failed
goes_of {K = K} tells faults k failed is goes = subst (λ (r : Recording K). Continues tells faults r.keeper k failed) is goes

-- and it stays as it is where nothing is recorded that changes a row
pub same_entry : {K : Type 0} {a b : Recording K} (e : Entry) (k : K) → a ≡ b → (HasSameRows a.farm (after a.farm e) → k ≡ a.keeper)
    → HasSameRows b.farm (after b.farm e) → k ≡ b.keeper
same_entry {K = K} e k is same = subst (λ (r : Recording K). HasSameRows r.farm (after r.farm e) → k ≡ r.keeper) is same

-- ---- a keeper that isn't told

-- memory ran out before
pub ran_out : {K T : Type 0} (tells : K → Type 0) (faults : K → ℕ) (k : K) (r : Result T RecordFault) → IsErrAnd r (λ why. why ≡ fault.NoMemory)
    → Continues tells faults k k (is_store_fault r)
ran_out tells faults k r err =
    let p = err_from_is_err_and r err in
    Continues-as tells faults k k false (is_store_fault r) (sym (ap is_store_fault p.1 ∙ ap is_of_store p.2)) (Continues-same tells faults k)

of_keeper_store : (why : KeeperFault) → is_store_failure why ≡ is_of_store (of_keeper why)
of_keeper_store keeper_fault.Failed = refl
of_keeper_store keeper_fault.NoMemory = refl

-- the store failed where the keeper said so, and only there
pub keeper_told : {T : Type 0} (why : KeeperFault) (r : Result T RecordFault) → IsErrAnd r (λ told. told ≡ of_keeper why) → is_store_failure why ≡ is_store_fault r
keeper_told why r err =
    let p = err_from_is_err_and r err in
    of_keeper_store why ∙ sym (ap is_store_fault p.1 ∙ ap is_of_store p.2)

-- a fault that is passed on
pub passed_on : {T : Type 0} (why : RecordFault) (r : Result T RecordFault) → IsErrAnd r (λ told. told ≡ why) → is_of_store why ≡ is_store_fault r
passed_on why r err =
    let p = err_from_is_err_and r err in
    sym (ap is_store_fault p.1 ∙ ap is_of_store p.2)

fault_unchanged : (holds left : Rows → Type 0) (f : Farm) (e : Entry) (why : RecordFault) → why ≡ fault.NoMemory → StaysAtFault holds left holds left f e why
fault_unchanged holds left f e fault.Store is = let never : ⊥ = cc in absurd never
fault_unchanged holds left f e fault.NoMemory is = λ has. has

-- it stays as it is where memory ran out before
pub unchanged : {T : Type 0} (holds left : Rows → Type 0) (f : Farm) (e : Entry) (r : Result T RecordFault) → IsErrAnd r (λ why. why ≡ fault.NoMemory)
    → StaysRecorded holds left holds left f e r
unchanged holds left f e (Ok done) is = absurd is
unchanged holds left f e (Err why) is = fault_unchanged holds left f e why is

pub stays_at_fault : (holds left holds' left' : Rows → Type 0) (f : Farm) (e : Entry) (why : RecordFault) → StaysAtFault holds left holds' left' f e why
    → HasRecorded holds left f → HasRecorded holds' left' f
stays_at_fault holds left holds' left' f e fault.Store stays = stays.1
stays_at_fault holds left holds' left' f e fault.NoMemory stays = stays

-- ---- a change

-- its rows name what its entry makes
pub names_then : (f : Farm) (e : Entry) (change : Change) → Makes f e change → (shown : List RowChange) → shown ≡ change.rows → NamesExactly f (after f e) shown
names_then f e change makes shown is =
    subst (NamesExactly f (after f e)) (sym is) (subst (λ (g : Farm). NamesExactly f g change.rows) makes.planned.farm makes.rows)

pub on_ok : {T E P : Type 0} (r : Result T E) → P → OnOk r P
on_ok (Ok x) p = p
on_ok (Err e) p = tt

pub is_reserved : (change : Change) → IsReserved (reserved_of change)
is_reserved change = record { act = record { taken = refl; memory_is = refl }; follow = refl }

-- a change makes the same farm whether or not its memory was taken
pub after_reserved : (f now : Farm) (change taken : Change) → now ≡ f → taken ≡ reserved_of change → after_change now taken ≡ after_change f change
after_reserved f now change taken same is =
    ap (λ (g : Farm). after_change g taken) same ∙ ap (after_change f) is

-- a keeper that has the farm of the entry has that of the change
pub recorded_then : (holds left : Rows → Type 0) (f new : Farm) (e : Entry) (change : Change) → Makes f e change → new ≡ after_change f change → HasRecorded holds left (after f e)
    → HasRecorded holds left new
recorded_then holds left f new e change makes is has = subst (HasRecorded holds left) (sym (is ∙ makes.planned.farm)) has

fails : (holds left holds' left' : Rows → Type 0) (f new : Farm) (e : Entry) (change : Change) → Makes f e change → new ≡ f → (why : RecordFault)
    → StaysAtFault holds left holds' left' f e why → FailsToRecord f (after_change f change) why new
fails holds left holds' left' f new e change makes same fault.Store stays = (same, λ rows. stays.0 (rows ∙ ap rows_of makes.planned.farm))
fails holds left holds' left' f new e change makes same fault.NoMemory stays = same

pub records_at_fault : {T : Type 0} (holds left holds' left' : Rows → Type 0) (f new : Farm) (e : Entry) (change : Change) → Makes f e change → new ≡ f
    → (r : Result T RecordFault) (why : RecordFault) → r ≡ Err why → StaysAtFault holds left holds' left' f e why → Records f (after_change f change) r new
records_at_fault {T = T} holds left holds' left' f new e change makes same r why is stays =
    subst (λ (q : Result T RecordFault). Records f (after_change f change) q new) (sym is) (fails holds left holds' left' f new e change makes same why stays)

-- ---- a booking

-- the store failed at a booking that was decided, or memory ran out
booking_fails : (holds left holds' left' : Rows → Type 0) (f : Farm) (e : Entry) (why : RecordFault) → StaysAtFault holds left holds' left' f e why
    → FailsToRecord f (after f e) why f
booking_fails holds left holds' left' f e fault.Store stays = (refl, stays.0)
booking_fails holds left holds' left' f e fault.NoMemory stays = refl

pub booking_at_fault : (holds left holds' left' : Rows → Type 0) (f : Farm) (e : Entry) (why : RecordFault) (r : Result (Unit {0}) RecordFault)
    → IsErrAnd r (λ told. told ≡ why) → StaysAtFault holds left holds' left' f e why → Records f (after f e) r f
booking_at_fault holds left holds' left' f e why r err stays =
    let p = err_from_is_err_and r err in
    subst (λ (q : Result (Unit {0}) RecordFault). Records f (after f e) q f) (sym (p.1 ∙ ap Err p.2)) (booking_fails holds left holds' left' f e why stays)

-- what holds of the booking that was decided holds of the one that was asked for
pub as_asked : (P : (slot host moment : ℕ) → Type 0) (slot host moment : ℕ) (b : Booking) → IsAsked slot host moment b → P b.slot b.host b.moment → P slot host moment
as_asked P slot host moment b asked p =
    subst (λ (n : ℕ). P slot host n) asked.moment_is (subst (λ (n : ℕ). P slot n b.moment) asked.host_is (subst (λ (n : ℕ). P n b.host b.moment) asked.slot_is p))
