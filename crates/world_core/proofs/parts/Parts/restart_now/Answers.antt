use Rattle.std.proofs.Common.{None, subst}
use Rattle.world_law.specs.declared.event.Event.TheVariants as event
use Rattle.world_law.specs.World.{World}
use Rattle.world_core.specs.Restarting.{IsStart}
use Rattle.world_core.proofs.Steps.{no_memory, start_now}
use Rattle.world_core.proofs.parts.Parts.restart_now.Goals as goal

pub returns-in-Ok : goal.returns-in-Ok
returns-in-Ok c =
    start_now c.args.self.now c.args.moment tt c.in-Ok.started c.begin.new.self
    (subst (λ (v : World). IsStart v.now c.args.moment c.in-Ok.started) c.self.view_is c.in-Ok.ensures) c.begin.ensures

pub returns-in-Err : goal.returns-in-Err
returns-in-Err c = no_memory c.args.self.now (event.Restart None c.args.moment)
