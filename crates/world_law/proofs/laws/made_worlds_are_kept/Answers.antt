-- The lemma, of any farm and hosts.
use Rattle.world_law.proofs.Promised.{made_kept}
use Rattle.world_law.proofs.laws.made_worlds_are_kept.Goals as goal

pub returns : goal.returns
returns c = λ f configs asked can. made_kept f configs asked can
