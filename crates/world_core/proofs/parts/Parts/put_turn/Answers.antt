use Rattle.std.proofs.Common.{subst}
use Rattle.world_law.specs.World.{World}
use Rattle.world_core.specs.Answering.{Turns}
use Rattle.world_core.specs.Inside.{world_of}
use Rattle.world_core.proofs.Answered.{puts_turn}
use Rattle.world_core.proofs.parts.Parts.put_turn.Goals as goal

pub returns : goal.returns
returns c =
    let w = world_of c.self.inside in
    let n = c.put_parts.new in
    subst (λ (v : World). Turns v c.args.turn c.put_parts.result (record w { now = n.now; further = n.further.items; entries = n.entries; told = n.told })) c.self.view_is
    (puts_turn w c.args.turn c.put_parts.result n.now n.further.items n.entries n.told c.put_parts.ensures)
