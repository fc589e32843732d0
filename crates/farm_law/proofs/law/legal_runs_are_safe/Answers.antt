use Rattle.farm_law.proofs.SafeRuns.{legal_is_safe}
use Rattle.farm_law.proofs.law.legal_runs_are_safe.Goals as goal

pub returns : goal.returns
returns c = legal_is_safe
