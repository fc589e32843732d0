-- The lemma, of any two outcomes.
use Rattle.world_law.proofs.OneOutcome.{one_outcome}
use Rattle.world_law.proofs.laws.events_have_one_outcome.Goals as goal

pub returns : goal.returns
returns c = λ w e r s a b first second m n. one_outcome w e r s a b first second m n
