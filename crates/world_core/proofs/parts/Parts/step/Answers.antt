use Rattle.world_core.proofs.Named.{named_last, unnamed_last, unnamed_steps}
use Rattle.world_core.proofs.parts.Parts.step.Goals as goal

pub returns-in-Ok-clause-last : goal.returns-in-Ok-clause-last
returns-in-Ok-clause-last c = named_last c.args.self.now c.args.event.now _ c.step_noted.result c.in-Ok.ensures

pub returns-in-Err-clause-outcome : goal.returns-in-Err-clause-outcome
returns-in-Err-clause-outcome c = unnamed_steps c.args.self.now c.args.event.now c.in-Err.why c.in-Err.ensures

pub returns-in-Err-clause-last : goal.returns-in-Err-clause-last
returns-in-Err-clause-last c = unnamed_last c.args.self.now c.args.event.now c.in-Err.why c.in-Err.ensures
