-- Whether it was the store that failed.
use Rattle.std.specs.Prelude.{Bool, true, false, Result, Ok, Err}
use Rattle.farm_keeper.specs.declared.fault.KeeperFault.{KeeperFault}
use Rattle.farm_keeper.specs.declared.fault.KeeperFault.TheVariants.{Failed, NoMemory}

-- the store failed: want of memory is no such fault
abbrev pub is_store_failure : KeeperFault → Bool
is_store_failure Failed = true
is_store_failure NoMemory = false

-- it failed in a call
abbrev pub is_failed : {T : Type 0} → Result T KeeperFault → Bool
is_failed (Ok done) = false
is_failed (Err why) = is_store_failure why
