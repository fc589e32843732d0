use Rattle.farm_keeper.proofs.KeepingLaws.{Continues-as}
use Rattle.recorder.specs.Faults.{is_store_fault}
use Rattle.recorder.proofs.Recorded.{keeper_told, ran_out}
use Rattle.recorder.proofs.Told.{no_batch, refused_batch}
use Rattle.store_law.specs.Stored.{batch_of}
use Rattle.farm_keeper.specs.declared.row.Batch.{Batch}
use Rattle.std.proofs.Common.{Ok, subst}
use Rattle.recorder.proofs.keeping.commit.Goals as goal

pub returns-in_err-batch-clause-keeper : goal.returns-in_err-batch-clause-keeper
returns-in_err-batch-clause-keeper g c = ran_out g.K.Keeper.tells g.K.Keeper.faults c.args.keeper.now c.from_residual.result c.from_residual.ensures.1

pub returns-in_err-commit-clause-keeper : goal.returns-in_err-commit-clause-keeper
returns-in_err-commit-clause-keeper g c =
    Continues-as g.K.Keeper.tells g.K.Keeper.faults c.args.keeper.now c.commit.new.self _ (is_store_fault c.from_residual-in_err-commit.result)
    (keeper_told _ c.from_residual-in_err-commit.result c.from_residual-in_err-commit.ensures.1) c.in_err-commit.ensures.keeper

pub returns-in_err-batch-clause-told : goal.returns-in_err-batch-clause-told
returns-in_err-batch-clause-told g c = no_batch g.K.Keeper.commits (batch_of c.args.changes.now) c.args.keeper.now c.from_residual.result c.from_residual.ensures.1

pub returns-in_err-commit-clause-told : goal.returns-in_err-commit-clause-told
returns-in_err-commit-clause-told g c =
    refused_batch g.K.Keeper.commits c.in_ok-batch.batch (batch_of c.args.changes.now) c.args.keeper.now c.commit.new.self _ c.from_residual-in_err-commit.result
    c.in_ok-batch.ensures c.from_residual-in_err-commit.ensures.1 c.in_err-commit.ensures.told

pub returns-clause-told : goal.returns-clause-told
returns-clause-told g c =
    subst (λ (b : Batch). g.K.Keeper.commits b (Ok tt) c.args.keeper.now c.commit.new.self) c.in_ok-batch.ensures c.in_ok-commit.ensures.told
