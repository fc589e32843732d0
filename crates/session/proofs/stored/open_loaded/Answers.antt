use Rattle.session.specs.Words.{word_form}
use Rattle.session.proofs.LoadedStore.{begun_in, loaded_opens}
use Rattle.session.proofs.stored.open_loaded.Goals as goal

pub returns-clause-opens : goal.returns-clause-opens
returns-clause-opens g c = λ given loaded.
    loaded_opens g.K.Keeper.tells g.K.Keeper.holds g.K.Keeper.left g.K.Keeper.faults (word_form c.args.form) c.args.moment c.args.farm c.args.format given c.args.keeper
    c.requires.script c.ranges.moment.fits loaded c.open_recovered.result c.open_recovered.ensures

pub returns-clause-begun : goal.returns-clause-begun
returns-clause-begun g c =
    begun_in c.args.format g.K.Keeper.tells g.K.Keeper.holds g.K.Keeper.left g.K.Keeper.faults (word_form c.args.form) c.args.moment c.args.farm c.args.keeper
    c.open_recovered.result c.open_recovered.ensures
