use Rattle.std.proofs.Common.{IfOk, Result, Some, subst}
use Rattle.std.specs.declared.alloc.AllocError.{AllocError}
use Rattle.world_answers.specs.declared.leaving.Left.{Left}
use Rattle.world_answers.specs.Leaving.{LeavesAct}
use Rattle.world_answers.proofs.OneEntry.{unstored_acts}
use Rattle.world_answers.proofs.acting.stopped_act.Goals as goal

pub returns-in-Ok : goal.returns-in-Ok
returns-in-Ok c =
    let leaves =
    subst (λ (r : Result Left AllocError). IfOk r (LeavesAct c.args.farm.now c.args.entry.now (Some c.args.number))) c.in-Ok.is c.leave_act.ensures in
    unstored_acts c.args.farm.now c.args.entry.now c.args.first c.requires.first c.requires.changes c.args.number c.requires.at c.in-Ok.left leaves
    c.new.result c.new.ensures
