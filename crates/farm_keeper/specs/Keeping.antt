-- What a call does to what a keeper holds, and to what a stop may leave of it.
use Rattle.std.specs.Prelude.{◌≡◌, ◌⊎◌, ℕ, Bool, List, Result}
use Rattle.std.specs.List.{Any}
use Rattle.farm_keeper.specs.declared.fault.KeeperFault.{KeeperFault}
use Rattle.farm_keeper.specs.declared.row.Batch.{Batch}
use Rattle.fault_counts.specs.Counts.{incremented_if}
use Rattle.farm_keeper.specs.Rows.{Rows, after}

-- How a keeper goes on, by whether its store failed meanwhile: one that tells now told before, and its count of faults is one more where it failed, and
-- stands where it didn't.
pub record Continues {K : Type 0} (tells : K → Type 0) (faults : K → ℕ) (before now : K) (failed : Bool) : Type 0 where
  pub told : tells now → tells before
  pub counted : faults now ≡ incremented_if failed (faults before)

-- what is told of a commit, by its batch, its answer, and the keeper before and after it
abbrev pub Committing : Type 0 → Type 1
Committing K = Batch → Result (Unit {0}) KeeperFault → K → K → Type 0

-- what was so before is so now
abbrev pub Keeps : (Rows → Type 0) → (Rows → Type 0) → Type 0
Keeps before now = (rows : Rows) → before rows → now rows

-- what is held has the batch
abbrev pub HoldsWith : Batch → (Rows → Type 0) → (Rows → Type 0) → Type 0
HoldsWith batch before now = (rows : Rows) → before rows → now (after batch rows)

-- a stop leaves the rows held before with the batch, and nothing else
abbrev pub LeavesTaken : Batch → (Rows → Type 0) → (Rows → Type 0) → Type 0
LeavesTaken batch held left = (rows : Rows) → held rows → (other : Rows) → left other → other ≡ after batch rows

-- a stop leaves what it could leave before, or the rows held with the batch
abbrev pub MayLeave : Batch → (Rows → Type 0) → (Rows → Type 0) → (Rows → Type 0) → Type 0
MayLeave batch held before now =
    (rows : Rows) → held rows → (other : Rows) → now other → before other ⊎ (other ≡ after batch rows)

-- a stop leaves some rows
abbrev pub LeavesSome : (Rows → Type 0) → Type 0
LeavesSome left = ∥ ((rows : Rows) × left rows) ∥₁

-- these rows are held, and no others
pub record HoldsOnly (holds : Rows → Type 0) (rows : Rows) : Type 0 where
  pub held : holds rows
  pub no_others : (other : Rows) → holds other → other ≡ rows

-- what a stop leaves: the rows, or the rows with one of the batches that were refused since the last Ok of a commit
abbrev pub MayRemain : Rows → List Batch → Rows → Type 0
MayRemain rows refused left = (left ≡ rows) ⊎ Any (λ batch. left ≡ after batch rows) refused

-- a keeper holds the rows, and a stop leaves one of these: the rows, or the rows with one of the refused batches
pub record HasKept (holds left : Rows → Type 0) (rows : Rows) (refused : List Batch) : Type 0 where
  pub held : holds rows
  pub remains : Keeps left (MayRemain rows refused)
  pub some : LeavesSome left
