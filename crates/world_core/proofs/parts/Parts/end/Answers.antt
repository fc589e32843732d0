use Rattle.std.proofs.Common.{subst}
use Rattle.world_law.specs.declared.event.Event.TheVariants as event
use Rattle.world_law.specs.World.{World}
use Rattle.world_core.specs.Inside.{world_of}
use Rattle.world_core.specs.Stepping.{Comes}
use Rattle.world_core.proofs.Steps.{end_comes, with_hosts}
use Rattle.world_core.proofs.parts.Parts.end.Goals as goal

pub returns : goal.returns
returns c =
    let w = world_of c.self.inside in
    subst (λ (v : World). Comes v (event.Ended c.args.host c.args.attempt.now c.args.exit.now) c.end.result (with_hosts w c.end.new.hosts.items)) c.self.view_is
    (end_comes w c.args.host c.args.attempt.now c.args.exit.now c.end.result c.end.new.hosts.items c.end.ensures)
