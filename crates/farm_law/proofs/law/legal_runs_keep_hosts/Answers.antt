use Rattle.farm_law.proofs.SafeRuns.{run_law}
use Rattle.farm_law.proofs.law.legal_runs_keep_hosts.Goals as goal

pub returns : goal.returns
returns c = record { sound = λ f es ok there legal. (run_law f es legal).sound ok there; hosts = λ f es ok there legal. (run_law f es legal).hosts ok there }
