use Rattle.recording_core.proofs.Whole.{recorder_fits}
use Rattle.recording_core.proofs.law.steps_write_whole_words.Goals as goal

pub returns : goal.returns
returns c = recorder_fits
