use Rattle.recovery.proofs.Reached.{is_said}
use Rattle.recovery.proofs.draft.FarmDraft.finish.Goals as goal

pub returns-clause-said : goal.returns-clause-said
returns-clause-said c = is_said c.args.self c.end.result c.end.ensures
