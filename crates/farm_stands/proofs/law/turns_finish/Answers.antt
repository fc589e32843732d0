use Rattle.farm_stands.proofs.Finishing.{finished}
use Rattle.farm_stands.proofs.law.turns_finish.Goals as goal

pub returns : goal.returns
returns c = finished
