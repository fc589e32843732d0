-- The journal is a legal history, and the keeper holds its farm.
use Rattle.serving.proofs.ServeEnds.{served_from}
use Rattle.serving.proofs.opened.keeper_of.Goals as goal

pub returns-clause-served : goal.returns-clause-served
returns-clause-served g c =
    let keeper = c.close-keeper.result.0 in
    served_from (g.K.Keeper.tells keeper) (g.K.Keeper.holds keeper) (g.K.Keeper.left keeper) g.N.Opened.opening c.args.recorder.view c.args.recorder.farm
    c.requires.opening c.legal.ensures.0 c.legal.ensures.1 c.rests.ensures.1 c.legal_runs_are_safe.ensures c.close-keeper.ensures.recorded
