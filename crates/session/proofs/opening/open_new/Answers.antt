use Rattle.farm_keeper.proofs.KeepingLaws.{Continues-same}
use Rattle.session.specs.Words.{word_form}
use Rattle.session.proofs.OpenedLegal.{made_opened}
use Rattle.session.proofs.OpenedStore.{made_recorded, stated_begins}
use Rattle.session.proofs.OpenedWays.{begun_at}
use Rattle.session.proofs.opening.open_new.Goals as goal

pub begin-requires-clause-recorded : goal.begin-requires-clause-recorded
begin-requires-clause-recorded g c =
    λ tells.
    made_recorded (word_form c.args.form) (g.K.Keeper.holds c.args.keeper) (g.K.Keeper.left c.args.keeper) c.in-Ok.farm c.in-Ok.ensures c.requires.stated (c.requires.kept tells)

pub begin-requires-clause-legal : goal.begin-requires-clause-legal
begin-requires-clause-legal g c =
    made_opened (word_form c.args.form) c.requires.stated c.requires.within c.the_demonstration_is_a_run.ensures.legal c.loads_are_runs.ensures c.in-Ok.farm c.in-Ok.ensures
    c.args.moment c.ranges.moment.fits

pub returns-in-Ok : goal.returns-in-Ok
returns-in-Ok g c =
    let form = word_form c.args.form in
    let first = c.in-Ok.farm in
    let k = c.args.keeper in
    let moment = c.args.moment in
    begun_at g.K.Keeper.tells g.K.Keeper.holds g.K.Keeper.left g.K.Keeper.faults form moment k k first
    (stated_begins form (g.K.Keeper.tells k) (g.K.Keeper.holds k) first c.requires.stated c.in-Ok.ensures) (Continues-same g.K.Keeper.tells g.K.Keeper.faults k)
    (made_opened form c.requires.stated c.requires.within c.the_demonstration_is_a_run.ensures.legal c.loads_are_runs.ensures first c.in-Ok.ensures moment c.ranges.moment.fits)
    c.begin.result c.begin.ensures
