use Rattle.line_answers.specs.Lines.{shown}
use Rattle.world_answers.proofs.Left.{act_leaves}
use Rattle.world_answers.proofs.leaving.leave_act.Goals as goal

pub returns : goal.returns
returns c =
    act_leaves c.args.farm.now c.args.entry.now c.args.due c.in_ok-came.came.farm (shown c.in_ok-came.came.line) c.in_ok-came.ensures c.act_left.result
    c.act_left.ensures
