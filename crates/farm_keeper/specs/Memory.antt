-- A keeper in memory: its rows, the batches that a stop may leave, and the calls that are to fail.
use Rattle.std.specs.Prelude.{◌≡◌, ℕ, true, false, List, [], ◌∷◌, ◌++◌, Result, Ok, Err}
use Rattle.std.specs.FinMap.{empty}
use Rattle.farm_keeper.specs.declared.row.Row.{Row}
use Rattle.farm_keeper.specs.declared.row.Batch.{Batch}
use Rattle.farm_keeper.specs.declared.fault.KeeperFault.{KeeperFault}
use Rattle.farm_keeper.specs.declared.fault.KeeperFault.TheVariants.{Failed, NoMemory}
use Rattle.fault_counts.specs.Plans.{Plan, is_to_fail, new_plan, with_call, with_fault}
use Rattle.farm_keeper.specs.Rows.{Rows, Lists, after}

-- a keeper: its rows, the batches refused since the last Ok of a commit, and its calls
pub record Kept : Type 0 where
  pub rows : Rows
  pub refused : List Batch
  pub plan : Plan

-- a keeper of no rows
abbrev pub new_keeper : List ℕ → Kept
new_keeper fails = record { rows = empty; refused = []; plan = new_plan fails }

-- one more call
abbrev pub called : Kept → Kept
called kept = record kept { plan = with_call kept.plan }

-- one more fault
abbrev pub failed : Kept → Kept
failed kept = record kept { plan = with_fault kept.plan }

-- one more fault, which refused the batch
abbrev pub refused_with : Batch → Kept → Kept
refused_with batch kept = record kept { refused = kept.refused ++ batch ∷ []; plan = with_fault kept.plan }

-- with the batch, and none refused since
abbrev pub committed : Batch → Kept → Kept
committed batch kept = record kept { rows = after batch kept.rows; refused = [] }

-- what a load answers and leaves: it fails where it is to, and only there
abbrev pub Loads : Kept → Result (List Row) KeeperFault → Kept → Type 0
Loads old (Ok list) new = (is_to_fail old.plan ≡ false) × Lists list old.rows × (new ≡ called old)
Loads old (Err Failed) new = (is_to_fail old.plan ≡ true) × (new ≡ failed (called old))
Loads old (Err NoMemory) new = (is_to_fail old.plan ≡ false) × (new ≡ called old)

-- what a commit answers and leaves: all of the batch or none of it; it fails where it is to and there is memory for the
-- batch that is refused, and only there
abbrev pub Commits : {T : Type 0} → Batch → Result T KeeperFault → Kept → Kept → Type 0
Commits batch (Ok _) old new = (is_to_fail old.plan ≡ false) × (new ≡ committed batch (called old))
Commits batch (Err Failed) old new = (is_to_fail old.plan ≡ true) × (new ≡ refused_with batch (called old))
Commits batch (Err NoMemory) old new = new ≡ called old
