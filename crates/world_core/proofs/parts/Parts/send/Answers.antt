use Rattle.std.proofs.Common.{subst}
use Rattle.world_law.specs.declared.event.Event.TheVariants as event
use Rattle.world_law.specs.World.{World}
use Rattle.world_core.specs.Inside.{world_of}
use Rattle.world_core.specs.Stepping.{Comes}
use Rattle.world_core.proofs.Steps.{send_comes}
use Rattle.world_core.proofs.parts.Parts.send.Goals as goal

pub returns : goal.returns
returns c =
    let w = world_of c.self.inside in
    subst (λ (v : World). Comes v (event.Send c.args.host) c.send.result (record w { hosts = c.send.new.hosts.items; sent = c.send.new.sent })) c.self.view_is
    (send_comes w c.args.host c.send.result c.send.new.hosts.items c.send.new.sent c.send.ensures)
