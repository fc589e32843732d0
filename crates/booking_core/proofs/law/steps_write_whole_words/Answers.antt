use Rattle.booking_core.proofs.Whole.{step_fits}
use Rattle.booking_core.proofs.law.steps_write_whole_words.Goals as goal

pub returns : goal.returns
returns c = step_fits
