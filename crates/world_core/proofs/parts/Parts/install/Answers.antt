use Rattle.std.proofs.Common.{subst}
use Rattle.world_law.specs.World.{World}
use Rattle.world_core.specs.Answering.{IsTurn}
use Rattle.world_core.proofs.Answered.{turns_install}
use Rattle.world_core.proofs.parts.Parts.install.Goals as goal

pub returns-in-Ok : goal.returns-in-Ok
returns-in-Ok c =
    turns_install c.args.self.now c.args.line c.args.host c.args.trial c.in-Ok.turn c.put_turn.result c.put_turn.new.self
    (subst (λ (v : World). IsTurn v.now c.args.line c.args.host c.args.trial c.in-Ok.turn) c.self.view_is c.in-Ok.ensures) c.put_turn.ensures
