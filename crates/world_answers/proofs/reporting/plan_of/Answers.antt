use Rattle.world_answers.proofs.Planned.{plans}
use Rattle.world_answers.proofs.reporting.plan_of.Goals as goal

pub returns : goal.returns
returns c = plans c.args.farm.now c.args.moment c.args.entry c.heard_first-heard.result c.heard_first-heard.ensures c.plan_if.result c.plan_if.ensures
