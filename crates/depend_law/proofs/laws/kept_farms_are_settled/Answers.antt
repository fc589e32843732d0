use Rattle.depend_law.proofs.Settled.{settled_is}
use Rattle.depend_law.proofs.laws.kept_farms_are_settled.Goals as goal

pub returns : goal.returns
returns c f k = settled_is f k.depends
