use Rattle.dispatch_plan.proofs.Ordered.{dispatch_order}
use Rattle.dispatch_plan.proofs.law.dispatch_lists_each_once.Goals as goal

pub returns : goal.returns
returns c = dispatch_order
