use Rattle.std.proofs.Common.{◌∙◌, subst, sym}
use Rattle.farm_types.specs.Farm.{Farm}
use Rattle.line_answers.specs.farm_core.specs.Change.{IsReady, IsReserved}
use Rattle.line_answers.specs.farm_core.proofs.Applying.{ready_reserved}
use Rattle.line_answers.specs.recorder.proofs.Recorded.{after_reserved, is_reserved}
use Rattle.world_answers.proofs.committing.apply.Goals as goal

pub apply-requires-clause-ready : goal.apply-requires-clause-ready
apply-requires-clause-ready c =
    subst (λ (f : Farm). IsReady f c.reserve.new.change) (sym c.in-Ok.ensures.farm)
    (subst (IsReady c.args.farm.now) (sym c.in-Ok.ensures.ok) (ready_reserved c.args.farm.now c.args.change c.requires.ready))

pub apply-requires-clause-reserved : goal.apply-requires-clause-reserved
apply-requires-clause-reserved c = subst IsReserved (sym c.in-Ok.ensures.ok) (is_reserved c.args.change)

pub returns-in-Ok-clause-ok : goal.returns-in-Ok-clause-ok
returns-in-Ok-clause-ok c =
    c.apply.ensures.farm
    ∙ after_reserved c.args.farm.now c.reserve.new.self c.args.change c.reserve.new.change c.in-Ok.ensures.farm c.in-Ok.ensures.ok
