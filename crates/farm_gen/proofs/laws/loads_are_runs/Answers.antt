use Rattle.farm_gen.proofs.LoadWaits.{loads_legal}
use Rattle.farm_gen.proofs.laws.loads_are_runs.Goals as goal

-- src/laws.rt:9:1
pub returns : goal.returns
returns c = loads_legal
