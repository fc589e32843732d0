use Rattle.recording_core.proofs.Starting.{starts_none}
use Rattle.recording_core.proofs.law.others_start_nothing.Goals as goal

pub returns : goal.returns
returns c = starts_none
