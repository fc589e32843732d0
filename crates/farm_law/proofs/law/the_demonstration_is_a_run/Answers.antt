use Rattle.farm_law.proofs.DemoLegal.{demo_legal, demo_run}
use Rattle.farm_law.proofs.law.the_demonstration_is_a_run.Goals as goal

pub returns : goal.returns
returns c = record { legal = demo_legal; farm = demo_run }
