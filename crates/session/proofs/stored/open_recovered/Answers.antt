use Rattle.session.specs.Words.{word_form}
use Rattle.session.proofs.OpenedLegal.{script_opened, script_within}
use Rattle.session.proofs.OpenedStore.{rows_recorded}
use Rattle.session.proofs.OpenedWays.{begun_later, old_stays}
use Rattle.session.proofs.stored.open_recovered.Goals as goal

pub begin-requires-clause-recorded : goal.begin-requires-clause-recorded
begin-requires-clause-recorded g c =
    λ tells.
    rows_recorded (g.K.Keeper.holds c.migrated.new.keeper) (g.K.Keeper.left c.migrated.new.keeper) c.args.farm
    (c.in-Ok.ensures.rows (c.requires.kept (c.in-Ok.ensures.keeper.told tells)))

pub begin-requires-clause-within : goal.begin-requires-clause-within
begin-requires-clause-within g c = script_within (word_form c.args.form) c.requires.script

pub begin-requires-clause-legal : goal.begin-requires-clause-legal
begin-requires-clause-legal g c = script_opened (word_form c.args.form) c.args.farm c.args.moment c.requires.script c.ranges.moment.fits

pub returns-in-Ok : goal.returns-in-Ok
returns-in-Ok g c =
    begun_later c.args.format g.K.Keeper.tells g.K.Keeper.holds g.K.Keeper.left g.K.Keeper.faults (word_form c.args.form) c.args.moment c.args.farm c.args.keeper c.migrated.new.keeper
    c.in-Ok.ensures.keeper c.begin.result c.begin.ensures

pub returns-in-Err : goal.returns-in-Err
returns-in-Err g c =
    old_stays c.args.format g.K.Keeper.tells g.K.Keeper.holds g.K.Keeper.left g.K.Keeper.faults (word_form c.args.form) c.args.moment c.args.farm c.args.keeper c.migrated.new.keeper
    c.in-Err.fault c.in-Err.ensures.rows c.requires.kept c.in-Err.ensures.keeper
