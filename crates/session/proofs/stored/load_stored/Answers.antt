use Rattle.session.proofs.LoadedStore.{loads}
use Rattle.session.proofs.stored.load_stored.Goals as goal

pub returns : goal.returns
returns g c =
    loads g.K.Keeper.tells g.K.Keeper.holds g.K.Keeper.left g.K.Keeper.faults c.args.keeper.now c.load_farm.new.keeper c.rows_recovered_are_the_farms.ensures.rows
    c.rows_recovered_are_the_farms.ensures.format c.requires c.load_farm.ensures.kept c.load_farm.ensures.left c.load_farm.result c.load_farm.ensures.farm
    c.load_farm.ensures.keeper
