use Rattle.session.proofs.OpenedWays.{format_old, keeper_unmigrated, rows_migrated, rows_stand, rows_unmigrated}
use Rattle.session.proofs.stored.migrated.Goals as goal

pub returns-then-format-eq-ROW_FORMAT-clause-rows : goal.returns-then-format-eq-ROW_FORMAT-clause-rows
returns-then-format-eq-ROW_FORMAT-clause-rows g c =
    rows_stand c.args.format (g.K.Keeper.holds c.args.keeper.now) (g.K.Keeper.left c.args.keeper.now) c.args.farm.now c.if-format-eq-ROW_FORMAT.true

pub migrate-requires : goal.migrate-requires
migrate-requires g c = record { old = (format_old c.args.format c.args.farm.now c.requires c.if-format-eq-ROW_FORMAT.false).1 }

pub returns-in-Ok-clause-rows : goal.returns-in-Ok-clause-rows
returns-in-Ok-clause-rows g c =
    rows_migrated c.args.format (g.K.Keeper.holds c.args.keeper.now) (g.K.Keeper.left c.args.keeper.now) (g.K.Keeper.holds c.migrate.new.keeper) (g.K.Keeper.left c.migrate.new.keeper)
    c.args.farm.now (format_old c.args.format c.args.farm.now c.requires c.if-format-eq-ROW_FORMAT.false).0 c.in-Ok.ensures.rows

pub returns-in-Err-clause-rows : goal.returns-in-Err-clause-rows
returns-in-Err-clause-rows g c =
    rows_unmigrated c.args.format (g.K.Keeper.holds c.args.keeper.now) (g.K.Keeper.left c.args.keeper.now) (g.K.Keeper.holds c.migrate.new.keeper) (g.K.Keeper.left c.migrate.new.keeper)
    c.args.farm.now c.in-Err.fault c.of_keeper.result c.of_keeper.ensures
    (format_old c.args.format c.args.farm.now c.requires c.if-format-eq-ROW_FORMAT.false).0 c.in-Err.ensures.rows

pub returns-in-Err-clause-keeper : goal.returns-in-Err-clause-keeper
returns-in-Err-clause-keeper g c =
    keeper_unmigrated g.K.Keeper.tells g.K.Keeper.faults c.args.keeper.now c.migrate.new.keeper c.in-Err.fault c.of_keeper.result c.of_keeper.ensures c.in-Err.ensures.keeper
