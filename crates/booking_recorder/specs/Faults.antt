-- Faults of the plain recorder, of preparing and of recording, as the faults above them; and which of them the store's failure is.
use Rattle.std.specs.Prelude.{Bool, true, false, Result, Ok, Err}
use Rattle.farm_types.specs.declared.fault.FarmFault.{FarmFault}
use Rattle.farm_types.specs.declared.fault.FarmFault.TheVariants as farm_fault
use Rattle.recorder.specs.declared.refusal.RecordFault as plain
use Rattle.recorder.specs.declared.refusal.RecordFault.TheVariants as plain_fault
use Rattle.booking_recorder.specs.declared.refusal.CommitRefusal.{CommitRefusal}
use Rattle.booking_recorder.specs.declared.refusal.CommitRefusal.TheVariants as refusal
use Rattle.booking_recorder.specs.declared.refusal.ConfirmRefusal.{ConfirmRefusal}
use Rattle.booking_recorder.specs.declared.refusal.ConfirmRefusal.TheVariants as confirm
use Rattle.booking_recorder.specs.declared.refusal.RecordFault.{RecordFault}
use Rattle.booking_recorder.specs.declared.refusal.RecordFault.TheVariants as fault

abbrev pub of_plain : plain.RecordFault → RecordFault
of_plain plain_fault.Store = fault.Store
of_plain plain_fault.NoMemory = fault.NoMemory

abbrev pub of_farm : FarmFault → CommitRefusal
of_farm (farm_fault.Refused why) = refusal.Refused why
of_farm farm_fault.NoMemory = refusal.NoMemory

abbrev pub of_record : RecordFault → CommitRefusal
of_record fault.Spent = refusal.Spent
of_record (fault.Held cores memory) = refusal.Held cores memory
of_record fault.Store = refusal.Store
of_record fault.NoMemory = refusal.NoMemory

-- the store failed
abbrev pub is_of_store : RecordFault → Bool
is_of_store fault.Spent = false
is_of_store (fault.Held cores memory) = false
is_of_store fault.Store = true
is_of_store fault.NoMemory = false

abbrev pub is_by_store : CommitRefusal → Bool
is_by_store (refusal.Refused why) = false
is_by_store refusal.Spent = false
is_by_store (refusal.Held cores memory) = false
is_by_store refusal.Store = true
is_by_store refusal.NoMemory = false

abbrev pub is_at_store : ConfirmRefusal → Bool
is_at_store (confirm.Withdrawn found) = false
is_at_store confirm.EntriesSpent = false
is_at_store confirm.Paused = false
is_at_store (confirm.HostClosed state lock) = false
is_at_store (confirm.BurstLowered booked burst) = false
is_at_store (confirm.LimitLowered running most) = false
is_at_store confirm.Memory = false
is_at_store confirm.Store = true

-- it failed as an entry was recorded, or a booking
abbrev pub is_store_fault : {T : Type 0} → Result T RecordFault → Bool
is_store_fault (Ok done) = false
is_store_fault (Err why) = is_of_store why

abbrev pub is_store_refusal : {T : Type 0} → Result T CommitRefusal → Bool
is_store_refusal (Ok done) = false
is_store_refusal (Err why) = is_by_store why

abbrev pub is_store_stop : {T : Type 0} → Result T ConfirmRefusal → Bool
is_store_stop (Ok done) = false
is_store_stop (Err why) = is_at_store why

-- .. with the claim, which is handed back
abbrev pub is_store_left : {T C : Type 0} → Result T (C × ConfirmRefusal) → Bool
is_store_left (Ok done) = false
is_store_left (Err left) = is_at_store left.1

-- the journal has all the entries that it can count
abbrev pub is_spent_fault : RecordFault → Bool
is_spent_fault fault.Spent = true
is_spent_fault (fault.Held cores memory) = false
is_spent_fault fault.Store = false
is_spent_fault fault.NoMemory = false

abbrev pub is_spent : {T : Type 0} → Result T RecordFault → Bool
is_spent (Ok done) = false
is_spent (Err why) = is_spent_fault why

-- a host is held
abbrev pub is_of_held : RecordFault → Bool
is_of_held fault.Spent = false
is_of_held (fault.Held cores memory) = true
is_of_held fault.Store = false
is_of_held fault.NoMemory = false

abbrev pub is_by_held : CommitRefusal → Bool
is_by_held (refusal.Refused why) = false
is_by_held refusal.Spent = false
is_by_held (refusal.Held cores memory) = true
is_by_held refusal.Store = false
is_by_held refusal.NoMemory = false

abbrev pub is_held_fault : {T : Type 0} → Result T RecordFault → Bool
is_held_fault (Ok done) = false
is_held_fault (Err why) = is_of_held why

abbrev pub is_held_refusal : {T : Type 0} → Result T CommitRefusal → Bool
is_held_refusal (Ok done) = false
is_held_refusal (Err why) = is_by_held why
