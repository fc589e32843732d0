use Rattle.world_answers.proofs.OneEntry.{made_by}
use Rattle.world_answers.proofs.acting.trial_by.Goals as goal

pub returns : goal.returns
returns c = λ entry is. made_by c.args.acted entry c.recorded_if-entries.result (c.recorded_if-entries.ensures entry is) c.new.result c.new.ensures
