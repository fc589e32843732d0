use Rattle.std.proofs.Common.{List, sym, subst}
use Rattle.farm_keeper.specs.declared.row.Row.{Row}
use Rattle.farm_keeper.specs.Keeping.{Continues}
use Rattle.recovery.specs.Recovered.{recovered}
use Rattle.session.specs.Opening.{HasRecovered}
use Rattle.session.proofs.OpenedWays.{no_store_failed, rows_loaded}
use Rattle.session.proofs.stored.load_farm.Goals as goal

pub returns-in-Ok-clause-farm : goal.returns-in-Ok-clause-farm
returns-in-Ok-clause-farm g c =
    rows_loaded (g.K.Keeper.tells c.load.new.self) (g.K.Keeper.holds c.args.keeper.now) c.in-Ok.rows c.recover_farm.result c.in-Ok.ensures.listed
    (subst (λ (rows : List Row). HasRecovered (recovered rows) c.recover_farm.result) c.as_slice.ensures c.recover_farm.ensures)

pub returns-in-Ok-clause-keeper : goal.returns-in-Ok-clause-keeper
returns-in-Ok-clause-keeper g c =
    subst (Continues g.K.Keeper.tells g.K.Keeper.faults c.args.keeper.now c.load.new.self) (sym (no_store_failed _ c.recover_farm.result c.recover_farm.ensures)) c.in-Ok.ensures.keeper
