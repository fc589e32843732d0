use Rattle.std.proofs.Common.{subst}
use Rattle.world_law.specs.Promises.{KeepsPromises}
use Rattle.world_core.proofs.KeptSteps.{keeps_promises}
use Rattle.world_core.proofs.world.World.promised.Goals as goal

pub returns : goal.returns
returns c = subst KeepsPromises c.self.view_is (keeps_promises c.worlds_are_as_promised.ensures c.self.inside.parts c.self.invariant.0)
