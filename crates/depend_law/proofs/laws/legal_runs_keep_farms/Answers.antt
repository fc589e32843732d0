use Rattle.depend_law.proofs.KeptFirst.{first_demo, first_empty}
use Rattle.depend_law.proofs.KeptRuns.{kept_run}
use Rattle.depend_law.proofs.laws.legal_runs_keep_farms.Goals as goal

pub returns : goal.returns
returns c = record { empty = first_empty; demo = first_demo; runs = kept_run }
