use Rattle.std.proofs.Common.{◌∙◌, sym, ap}
use Rattle.farm_types.specs.Farm.{Farm}
use Rattle.std.specs.List.{slice_get}
use Rattle.dispatch_plan.proofs.Plans.{plan_none}
use Rattle.dispatch_plan.proofs.planning.plan.Goals as goal

pub returns-in-None : goal.returns-in-None
returns-in-None c = c.new.ensures ∙ sym (plan_none c.args.farm.now c.args.host (sym (c.in-None.ensures ∙ ap (λ (f : Farm). slice_get f.hosts c.args.host) c.books.ensures.farm)))
