use Rattle.farm_law.proofs.KeptFirst.{kept_empty, kept_demo}
use Rattle.farm_law.proofs.KeptRuns.{kept_run}
use Rattle.farm_law.proofs.law.legal_runs_keep_rows.Goals as goal

pub returns : goal.returns
returns c = record { empty = kept_empty; demo = kept_demo; runs = kept_run }
