use Rattle.std.proofs.Common.{subst}
use Rattle.world_law.specs.Outcomes.{Outcome}
use Rattle.world_law.specs.World.{World}
use Rattle.world_core.specs.Naming.{IsLast}
use Rattle.world_core.proofs.KeptSteps.{is_outcome, step_keeps}
use Rattle.world_core.proofs.world.World.step.Goals as goal

pub returns-clause-outcome : goal.returns-clause-outcome
returns-clause-outcome c =
    subst (λ (v : World). Outcome v c.args.event.now c.step.result c.step.new.self) c.self.view_is
    (is_outcome c.self.inside.parts c.args.event.now c.step.result c.step.new.self c.step.ensures.outcome)

pub returns-clause-last : goal.returns-clause-last
returns-clause-last c = subst (λ (v : World). IsLast v c.args.event.now c.step.result) c.self.view_is c.step.ensures.last

pub invariant_of-self : goal.invariant_of-self
invariant_of-self c =
    let outcome = is_outcome c.self.inside.parts c.args.event.now c.step.result c.step.new.self c.step.ensures.outcome in
    let keeps =
    step_keeps c.events_keep_worlds.ensures c.self.inside.parts c.args.event.now c.step.result c.step.new.self c.self.invariant.0 c.is_of_types.ensures outcome in
    (keeps, c.self.invariant.1)
