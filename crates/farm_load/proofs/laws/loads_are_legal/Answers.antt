use Rattle.farm_load.proofs.LegalLemmas.{load_farm, load_legal}
use Rattle.farm_load.proofs.laws.loads_are_legal.Goals as goal

pub returns : goal.returns
returns c =
    record {
      legal = λ n f marks keeps are. load_legal (record { keep = c.legal_runs_keep_rows.ensures.runs; legal = c.reports_are_legal.ensures }) n f keeps marks are;
      farm = load_farm;
    }
