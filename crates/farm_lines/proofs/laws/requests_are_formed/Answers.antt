-- The law is the lemma.
use Rattle.farm_lines.proofs.RequestLemmas.{requests_formed}
use Rattle.farm_lines.proofs.laws.requests_are_formed.Goals as goal

pub returns : goal.returns
returns c = requests_formed
