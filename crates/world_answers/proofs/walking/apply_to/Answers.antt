use Rattle.world_answers.proofs.walking.apply_to.Goals as goal

pub apply-requires-clause-ready : goal.apply-requires-clause-ready
apply-requires-clause-ready c = c.requires.ready

pub apply-requires-clause-unreserved : goal.apply-requires-clause-unreserved
apply-requires-clause-unreserved c = c.requires.unreserved

pub returns : goal.returns
returns c = c.in_ok-apply.ensures.ok
