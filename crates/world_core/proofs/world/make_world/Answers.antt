use Rattle.world_core.proofs.KeptSteps.{made_keeps}
use Rattle.world_core.proofs.world.make_world.Goals as goal

pub invariant_of-result : goal.invariant_of-result
invariant_of-result c =
    let law = c.made_worlds_are_kept.ensures in
    (made_keeps law c.in-Ok.parts c.args.farm c.args.hosts.now c.args.requests.now c.kept.ensures c.are_of_types.ensures c.in-Ok.ensures, c.new.ensures)
