-- The lemma, of any world.
use Rattle.world_law.proofs.Promised.{kept_promises}
use Rattle.world_law.proofs.laws.worlds_are_as_promised.Goals as goal

pub returns : goal.returns
returns c = λ w kept. kept_promises w kept
