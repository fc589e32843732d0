use Rattle.booking_core.proofs.Journals.{steps_still}
use Rattle.booking_core.proofs.law.steps_record_nothing.Goals as goal

pub returns : goal.returns
returns c = steps_still
