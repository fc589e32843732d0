-- What a keeper was told as entries were recorded in turn: the batch of each, and how it was answered.
use Rattle.std.specs.Prelude.{◌≡◌, ◌⊎◌, ◌++◌, Bool, true, false, List, [], ◌∷◌, Result, Ok, Err}
use Rattle.farm_types.specs.declared.entry.Entry.{Entry}
use Rattle.farm_types.specs.Farm.{Farm}
use Rattle.farm_types.specs.Run.{run_of}
use Rattle.farm_types.specs.Step.{after}
use Rattle.farm_keeper.specs.declared.fault.KeeperFault.{KeeperFault}
use Rattle.farm_keeper.specs.declared.fault.KeeperFault.TheVariants as keeper_fault
use Rattle.farm_keeper.specs.declared.row.Batch.{Batch}
use Rattle.farm_keeper.specs.Keeping.{Committing}
use Rattle.farm_keeper.specs.Rows as batched
use Rattle.store_law.specs.Stored.{stored}
use Rattle.recorder.specs.declared.refusal.RecordFault.{RecordFault}
use Rattle.recorder.specs.declared.refusal.RecordFault.TheVariants as fault
use Rattle.recorder.specs.Faults.{is_of_store}
use Rattle.recorder.specs.Recording.{ChangesRows, HasSameRows}

-- ---- one entry

-- The keeper was told one batch, which makes the rows of the one farm into those of the other, and of which it tells that it answered so. The entry
-- changes a row.
pub record IsTold {K : Type 0} (commits : Committing K) (f g : Farm) (answer : Result (Unit {0}) KeeperFault) (before now : K) : Type 0 where
  pub batch : Batch
  pub makes : batched.after batch (stored f) ≡ stored g
  pub changes : ChangesRows f g
  pub told : commits batch answer before now

-- no row changes, and the keeper is as it was; or it was told the batch, and took it
abbrev pub TakesRows : {K : Type 0} → Committing K → Farm → Farm → K → K → Type 0
TakesRows commits f g before now = (HasSameRows f g × (now ≡ before)) ⊎ IsTold commits f g (Ok tt) before now

-- memory ran out before the keeper was told, or in it
abbrev pub RunsOut : {K : Type 0} → Committing K → Farm → Farm → K → K → Type 0
RunsOut commits f g before now = (now ≡ before) ⊎ IsTold commits f g (Err keeper_fault.NoMemory) before now

-- ---- entries in turn

-- the rows of each were taken
abbrev pub TakesEach : {K : Type 0} → Committing K → Farm → List Entry → K → K → Type 0
TakesEach commits f [] before now = now ≡ before
TakesEach {K = K} commits f (e ∷ es) before now = (next : K) × TakesRows commits f (after f e) before next × TakesEach commits (after f e) es next now

-- It ended where these entries were left: the store failed at the next one; or memory ran out there, or before; or none was left.
abbrev pub EndsTelling : {K : Type 0} → Committing K → Farm → List Entry → Bool → K → K → Type 0
EndsTelling commits f [] failed before now = (failed ≡ false) × (now ≡ before)
EndsTelling commits f (e ∷ es) true before now = IsTold commits f (after f e) (Err keeper_fault.Failed) before now
EndsTelling commits f (e ∷ es) false before now = RunsOut commits f (after f e) before now

-- of all these entries the rows of the first ones were taken, and there it ended
pub record Tells {K : Type 0} (commits : Committing K) (f : Farm) (all done : List Entry) (failed : Bool) (before now : K) : Type 0 where
  pub rest : List Entry
  pub mid : K
  pub all_are : all ≡ done ++ rest
  pub taken : TakesEach commits f done before mid
  pub ends : EndsTelling commits (run_of f done) rest failed mid now

-- ---- what is recorded

-- a batch was told and taken; or the store failed at it; or memory ran out before it was told, or at it
abbrev pub TellsBatch : {K T : Type 0} → Committing K → Batch → Result T RecordFault → K → K → Type 0
TellsBatch commits batch (Ok _) before now = commits batch (Ok tt) before now
TellsBatch commits batch (Err fault.Store) before now = commits batch (Err keeper_fault.Failed) before now
TellsBatch commits batch (Err fault.NoMemory) before now = (now ≡ before) ⊎ commits batch (Err keeper_fault.NoMemory) before now

-- of these entries, which are one or none, all were recorded, or none was
abbrev pub TellsOf : {K T : Type 0} → Committing K → Farm → List Entry → Result T RecordFault → K → K → Type 0
TellsOf commits f due (Ok _) before now = TakesEach commits f due before now
TellsOf commits f due (Err why) before now = EndsTelling commits f due (is_of_store why) before now
