use Rattle.std.proofs.Common.{None}
use Rattle.line_answers.specs.LineAnswers.{reported}
use Rattle.world_answers.proofs.Replied.{tries_without_memory}
use Rattle.world_answers.proofs.Reported.{recorded_report}
use Rattle.world_answers.proofs.reporting.recorded_report.Goals as goal

pub returns-in_err-left : goal.returns-in_err-left
returns-in_err-left c =
    let f = c.args.farm.now in
    tries_without_memory f (reported f c.args.report c.args.moment) None c.from_residual.result c.from_residual.ensures.1

pub returns : goal.returns
returns c =
    recorded_report c.args.farm.now c.args.report c.args.moment c.args.plan c.requires.plan c.farms_differ_in_their_stores.ensures
    c.legal_runs_keep_farms.ensures.runs c.kept.ensures c.in_ok-left.left c.in_ok-left.ensures
