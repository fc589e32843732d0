use Rattle.std.proofs.Common.{None}
use Rattle.world_answers.proofs.OneEntry.{acts_without_memory, recorded_acts}
use Rattle.world_answers.proofs.acting.recorded_act.Goals as goal

pub returns-in_err-left : goal.returns-in_err-left
returns-in_err-left c =
    acts_without_memory c.args.farm.now c.args.entry.now None c.from_residual.result c.from_residual.ensures.1

pub returns : goal.returns
returns c =
    recorded_acts c.args.farm.now c.args.entry.now c.requires.legal c.args.stored c.requires.said c.in_ok-left.left c.in_ok-left.ensures
