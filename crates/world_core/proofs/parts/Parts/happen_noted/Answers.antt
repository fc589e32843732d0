use Rattle.world_core.proofs.Steps.{no_memory}
use Rattle.world_core.proofs.parts.Parts.happen_noted.Goals as goal

pub returns-in-Err-clause-comes : goal.returns-in-Err-clause-comes
returns-in-Err-clause-comes c = no_memory c.args.self.now c.args.event.now
