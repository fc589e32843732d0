-- Faults of a keeper, as those of recording.
use Rattle.std.specs.Prelude.{Bool, true, false, Result, Ok, Err}
use Rattle.farm_keeper.specs.declared.fault.KeeperFault.{KeeperFault}
use Rattle.farm_keeper.specs.declared.fault.KeeperFault.TheVariants as keeper_fault
use Rattle.recorder.specs.declared.refusal.RecordFault.{RecordFault}
use Rattle.recorder.specs.declared.refusal.RecordFault.TheVariants as fault

abbrev pub of_keeper : KeeperFault → RecordFault
of_keeper keeper_fault.Failed = fault.Store
of_keeper keeper_fault.NoMemory = fault.NoMemory

-- the store failed: want of memory is no such fault
abbrev pub is_of_store : RecordFault → Bool
is_of_store fault.Store = true
is_of_store fault.NoMemory = false

-- it failed as something was recorded
abbrev pub is_store_fault : {T : Type 0} → Result T RecordFault → Bool
is_store_fault (Ok done) = false
is_store_fault (Err why) = is_of_store why
