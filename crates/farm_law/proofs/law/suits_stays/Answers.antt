use Rattle.farm_law.proofs.Suits.{run_suits}
use Rattle.farm_law.proofs.law.suits_stays.Goals as goal

pub returns : goal.returns
returns c = run_suits
