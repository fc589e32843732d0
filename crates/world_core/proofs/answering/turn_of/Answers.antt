use Rattle.std.proofs.Common.{IfOk, Result, subst}
use Rattle.std.specs.declared.alloc.AllocError.{AllocError}
use Rattle.world_core.specs.declared.answering.Counts.{Counts}
use Rattle.world_core.specs.Answering.{IsCounted}
use Rattle.world_law.specs.World.{History}
use Rattle.world_core.proofs.answering.turn_of.Goals as goal

pub returns-in-Ok : goal.returns-in-Ok
returns-in-Ok c =
    let counted =
    subst (λ (r : Result Counts AllocError). IfOk r (IsCounted c.history.inside.counted c.args.line c.args.host c.args.trial)) c.in-Ok.is c.counts_of.ensures in
    c.turn_with.ensures c.args.history.now c.args.line
    (subst (λ (h : History). IsCounted h.counted c.args.line c.args.host c.args.trial c.in-Ok.counts) c.history.view_is counted)
