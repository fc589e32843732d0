use Rattle.std.proofs.Common.{◌∙◌}
use Rattle.world_answers.proofs.committing.commit.Goals as goal

pub apply-requires-clause-ready : goal.apply-requires-clause-ready
apply-requires-clause-ready c = c.in_ok-change.ensures.planned.ready

pub apply-requires-clause-unreserved : goal.apply-requires-clause-unreserved
apply-requires-clause-unreserved c = c.in_ok-change.ensures.planned.unreserved

pub returns : goal.returns
returns c = (c.in_ok-change.ensures.planned.accepted, c.in_ok-apply.ensures.ok ∙ c.in_ok-change.ensures.planned.farm)
