-- The rows of a store of format 1, made those of the format in which rows are written.
use Rattle.std.specs.Prelude.{ℕ, ◌≡◌, ◌⊎◌, Result, Ok, Err}
use Rattle.farm_keeper.specs.declared.fault.KeeperFault.{KeeperFault}
use Rattle.farm_keeper.specs.declared.fault.KeeperFault.TheVariants as keeper_fault
use Rattle.farm_keeper.specs.Keeping.{Committing, Keeps}
use Rattle.farm_keeper.specs.Rows.{Rows}
use Rattle.farm_rows.specs.declared.head_row.TheConstants.{ROW_FORMAT}
use Rattle.farm_types.specs.Farm.{Farm}
use Rattle.store_law.specs.Stored.{migration, stored_in}

-- a keeper that holds the farm's rows in a format, and a stop leaves these and no others
pub record HasRows (holds left : Rows → Type 0) (format : ℕ) (f : Farm) : Type 0 where
  pub held : holds (stored_in format f)
  pub remains : Keeps left (λ rows. rows ≡ stored_in format f)

-- one that holds those of format 1 still, and a stop leaves these, or those of the format in which rows are written
pub record HasOldRows (holds left : Rows → Type 0) (f : Farm) : Type 0 where
  pub held : holds (stored_in 1 f)
  pub remains : Keeps left (λ rows. (rows ≡ stored_in 1 f) ⊎ (rows ≡ stored_in ROW_FORMAT f))

-- the rows of format 1 became those of the other, or they stayed
abbrev pub Migrates : (holds left holds' left' : Rows → Type 0) → Farm → Result (Unit {0}) KeeperFault → Type 0
Migrates holds left holds' left' f (Ok done) = HasRows holds left 1 f → HasRows holds' left' ROW_FORMAT f
Migrates holds left holds' left' f (Err why) = HasRows holds left 1 f → HasOldRows holds' left' f

-- the keeper was told that one batch, and answered so; or memory ran out before
abbrev pub TellsMigration : {K : Type 0} → Committing K → Farm → Result (Unit {0}) KeeperFault → K → K → Type 0
TellsMigration commits f (Ok done) before now = commits (migration f) (Ok tt) before now
TellsMigration commits f (Err keeper_fault.Failed) before now = commits (migration f) (Err keeper_fault.Failed) before now
TellsMigration commits f (Err keeper_fault.NoMemory) before now = (now ≡ before) ⊎ commits (migration f) (Err keeper_fault.NoMemory) before now
