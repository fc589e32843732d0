use Rattle.farm_law.proofs.Suits.{plan_suits}
use Rattle.farm_law.proofs.law.candidates_suit.Goals as goal

pub returns : goal.returns
returns c = plan_suits
