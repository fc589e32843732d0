use Rattle.session.specs.Words.{word_form}
use Rattle.session.proofs.LoadedStore.{unloaded_form}
use Rattle.session.proofs.OpenedStore.{script_kept}
use Rattle.session.proofs.stored.open_stored.Goals as goal

pub load_stored-requires : goal.load_stored-requires
load_stored-requires g c = λ tells. script_kept (word_form c.args.form) (g.K.Keeper.holds c.args.keeper) (g.K.Keeper.left c.args.keeper) c.requires.script (c.requires.kept tells)

pub open_loaded-requires-clause-rows : goal.open_loaded-requires-clause-rows
open_loaded-requires-clause-rows g c = c.in-Ok.ensures.of_format

pub open_loaded-requires-clause-kept : goal.open_loaded-requires-clause-kept
open_loaded-requires-clause-kept g c = c.in-Ok.ensures.kept

pub returns-in-Ok : goal.returns-in-Ok
returns-in-Ok g c = c.open_loaded.ensures.opens c.args.keeper c.in-Ok.ensures

pub returns-in-Err : goal.returns-in-Err
returns-in-Err g c =
    unloaded_form g.K.Keeper.tells g.K.Keeper.holds g.K.Keeper.left g.K.Keeper.faults (word_form c.args.form) c.args.moment c.args.keeper c.load_stored.new.keeper c.in-Err.fault
    c.requires.script c.in-Err.ensures
