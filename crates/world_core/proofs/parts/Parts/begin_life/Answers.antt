use Rattle.std.proofs.Common.{subst}
use Rattle.world_law.specs.declared.event.Event.TheVariants as event
use Rattle.world_law.specs.World.{World}
use Rattle.world_core.specs.Inside.{world_of}
use Rattle.world_core.specs.Stepping.{Comes}
use Rattle.world_core.proofs.Steps.{begin_comes, with_hosts}
use Rattle.world_core.proofs.parts.Parts.begin_life.Goals as goal

pub returns : goal.returns
returns c =
    let w = world_of c.self.inside in
    subst (λ (v : World). Comes v (event.NewLife c.args.host c.args.nonce) c.begin_life.result (with_hosts w c.begin_life.new.hosts.items)) c.self.view_is
    (begin_comes w c.args.host c.args.nonce c.begin_life.result c.begin_life.new.hosts.items c.begin_life.ensures)
