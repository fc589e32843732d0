use Rattle.world_answers.proofs.Left.{report_leaves}
use Rattle.world_answers.proofs.leaving.leave_report.Goals as goal

pub returns : goal.returns
returns c =
    report_leaves c.args.farm.now c.args.report c.args.moment c.args.due c.in_ok-came.came.farm c.in_ok-came.came.taken c.in_ok-came.ensures
    c.report_left.result c.report_left.ensures
