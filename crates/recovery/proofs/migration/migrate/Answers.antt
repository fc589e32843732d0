use Rattle.recovery.proofs.Migrated.{migrated, not_failed, not_migrated, not_told, told_by}
use Rattle.recovery.proofs.migration.migrate.Goals as goal

pub returns-in_err-batch-clause-rows : goal.returns-in_err-batch-clause-rows
returns-in_err-batch-clause-rows g c =
    not_migrated (g.K.Keeper.holds c.args.keeper.now) (g.K.Keeper.left c.args.keeper.now) c.args.farm.now c.from_residual.result c.from_residual.ensures.1

pub returns-in_err-batch-clause-keeper : goal.returns-in_err-batch-clause-keeper
returns-in_err-batch-clause-keeper g c = not_failed g.K.Keeper.tells g.K.Keeper.faults c.args.keeper.now c.from_residual.result c.from_residual.ensures.1

pub returns-in_err-batch-clause-told : goal.returns-in_err-batch-clause-told
returns-in_err-batch-clause-told g c = not_told g.K.Keeper.commits c.args.farm.now c.from_residual.result c.args.keeper.now c.from_residual.ensures.1

pub returns-clause-rows : goal.returns-clause-rows
returns-clause-rows g c =
    migrated (g.K.Keeper.holds c.args.keeper.now) (g.K.Keeper.left c.args.keeper.now) (g.K.Keeper.holds c.commit.new.self) (g.K.Keeper.left c.commit.new.self) c.args.farm.now c.in_ok-batch.batch
    c.in_ok-batch.ensures (c.migrations_make_the_rows.ensures.rows c.args.farm.now c.kept.ensures c.requires.old) c.commit.result c.commit.ensures.taken c.commit.ensures.kept c.commit.ensures.left_ok
    c.commit.ensures.left_err

pub returns-clause-told : goal.returns-clause-told
returns-clause-told g c = told_by g.K.Keeper.commits c.args.farm.now c.in_ok-batch.batch c.commit.result c.args.keeper.now c.commit.new.self c.in_ok-batch.ensures c.commit.ensures.told
