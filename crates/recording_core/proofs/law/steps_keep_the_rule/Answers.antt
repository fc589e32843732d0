use Rattle.recording_core.proofs.Keeps.{steps_hold}
use Rattle.recording_core.proofs.law.steps_keep_the_rule.Goals as goal

pub returns : goal.returns
returns c = steps_hold
