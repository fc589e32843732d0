use Rattle.std.proofs.Common.{◌≡◌, IfOk, subst, sym}
use Rattle.farm_types.specs.Farm.{Farm}
use Rattle.line_answers.specs.farm_core.specs.Change.{IsReady, after_change}
use Rattle.world_answers.proofs.walking.changed.Goals as goal

pub apply_to-requires-clause-ready : goal.apply_to-requires-clause-ready
apply_to-requires-clause-ready c = subst (λ (g : Farm). IsReady g c.args.change) (sym c.in-Ok.ensures) c.requires.ready

pub returns-in-Ok : goal.returns-in-Ok
returns-in-Ok c = subst (λ (g : Farm). IfOk c.apply_to.result (λ changed. changed ≡ after_change g c.args.change)) c.in-Ok.ensures c.apply_to.ensures
