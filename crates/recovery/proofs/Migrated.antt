-- What a migration leaves of a keeper.
use Rattle.std.proofs.Common.{◌≡◌, ◌⊎◌, inl, inr, ℕ, refl, sym, ap, subst, ◌∙◌, false, Result, Ok, Err, OnOk, OnErr, IsErrAnd}
use Rattle.std.proofs.lemmas.Result.{err_from_is_err_and}
use Rattle.farm_keeper.specs.declared.fault.KeeperFault.{KeeperFault}
use Rattle.farm_keeper.specs.declared.fault.KeeperFault.TheVariants as keeper_fault
use Rattle.farm_keeper.specs.declared.row.Batch.{Batch}
use Rattle.farm_keeper.specs.Faults.{is_failed, is_store_failure}
use Rattle.farm_keeper.specs.Keeping.{Committing, Continues, HoldsWith, Keeps, LeavesTaken, MayLeave}
use Rattle.farm_keeper.specs.Rows.{Rows, after}
use Rattle.farm_keeper.proofs.KeepingLaws.{Continues-as, Continues-same}
use Rattle.farm_rows.specs.declared.head_row.TheConstants.{ROW_FORMAT}
use Rattle.farm_types.specs.Farm.{Farm}
use Rattle.store_law.specs.Stored.{migration, stored_in}
use Rattle.recovery.specs.Migration.{HasRows, Migrates, TellsMigration}

-- ---- a commit

module _ (holds left holds' left' : Rows → Type 0) (f : Farm) (batch : Batch) (is : batch ≡ migration f) (law : after (migration f) (stored_in 1 f) ≡ stored_in ROW_FORMAT f) where
  makes : after batch (stored_in 1 f) ≡ stored_in ROW_FORMAT f
  makes = ap (λ (b : Batch). after b (stored_in 1 f)) is ∙ law

  left_then : HasRows holds left 1 f → (rows : Rows) → left rows ⊎ (rows ≡ after batch (stored_in 1 f)) → (rows ≡ stored_in 1 f) ⊎ (rows ≡ stored_in ROW_FORMAT f)
  left_then has rows (inl was) = inl (has.remains rows was)
  left_then has rows (inr made) = inr (made ∙ makes)

  pub migrated : (r : Result (Unit {0}) KeeperFault) → OnOk r (HoldsWith batch holds holds') → OnErr r (Keeps holds holds') → OnOk r (LeavesTaken batch holds left')
      → OnErr r (MayLeave batch holds left left') → Migrates holds left holds' left' f r
  migrated (Ok done) taken kept leaves may =
      λ has. record { held = subst holds' makes (taken (stored_in 1 f) has.held); remains = λ rows so. leaves (stored_in 1 f) has.held rows so ∙ makes }
  migrated (Err why) taken kept leaves may =
      λ has. record { held = kept (stored_in 1 f) has.held; remains = λ rows so. left_then has rows (may (stored_in 1 f) has.held rows so) }

told : {K : Type 0} (commits : Committing K) (f : Farm) (r : Result (Unit {0}) KeeperFault) (before now : K) → commits (migration f) r before now → TellsMigration commits f r before now
told commits f (Ok done) before now is = is
told commits f (Err keeper_fault.Failed) before now is = is
told commits f (Err keeper_fault.NoMemory) before now is = inr is

pub told_by : {K : Type 0} (commits : Committing K) (f : Farm) (batch : Batch) (r : Result (Unit {0}) KeeperFault) (before now : K) → batch ≡ migration f → commits batch r before now
    → TellsMigration commits f r before now
told_by commits f batch r before now is so = told commits f r before now (subst (λ (b : Batch). commits b r before now) is so)

-- ---- none, as memory ran out before

pub not_migrated : (holds left : Rows → Type 0) (f : Farm) (r : Result (Unit {0}) KeeperFault) → IsErrAnd r (λ why. why ≡ keeper_fault.NoMemory) → Migrates holds left holds left f r
not_migrated holds left f (Ok done) is = absurd is
not_migrated holds left f (Err why) is = λ has. record { held = has.held; remains = λ rows so. inl (has.remains rows so) }

pub not_told : {K : Type 0} (commits : Committing K) (f : Farm) (r : Result (Unit {0}) KeeperFault) (k : K) → IsErrAnd r (λ why. why ≡ keeper_fault.NoMemory) → TellsMigration commits f r k k
not_told commits f (Ok done) k is = absurd is
not_told commits f (Err keeper_fault.Failed) k is = let never : ⊥ = cc in absurd never
not_told commits f (Err keeper_fault.NoMemory) k is = inl refl

pub not_failed : {K : Type 0} (tells : K → Type 0) (faults : K → ℕ) (k : K) (r : Result (Unit {0}) KeeperFault) → IsErrAnd r (λ why. why ≡ keeper_fault.NoMemory)
    → Continues tells faults k k (is_failed r)
not_failed tells faults k r is =
    let p = err_from_is_err_and r is in
    Continues-as tells faults k k false (is_failed r) (sym (ap is_failed p.1 ∙ ap is_store_failure p.2)) (Continues-same tells faults k)
