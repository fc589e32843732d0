use Rattle.recording_core.proofs.Journals.{steps_record}
use Rattle.recording_core.proofs.law.steps_record_entries.Goals as goal

pub returns : goal.returns
returns c = steps_record
