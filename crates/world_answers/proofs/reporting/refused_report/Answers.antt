use Rattle.std.proofs.Common.{◌∙◌, sym}
use Rattle.line_answers.specs.LineAnswers.{reported}
use Rattle.world_answers.proofs.Replied.{tries_without_memory}
use Rattle.world_answers.proofs.RefusedReports.{refused_alone, refused_none}
use Rattle.world_answers.proofs.reporting.refused_report.Goals as goal

pub returns-then-is_some : goal.returns-then-is_some
returns-then-is_some c =
    refused_none c.args.farm.now c.args.report c.args.moment c.requires.refuses c.args.refused (sym c.is_some.ensures ∙ c.if-is_some.true)

pub returns-in_err-left : goal.returns-in_err-left
returns-in_err-left c =
    let f = c.args.farm.now in
    tries_without_memory f (reported f c.args.report c.args.moment) c.args.refused c.from_residual.result c.from_residual.ensures.1

pub returns : goal.returns
returns c =
    refused_alone c.args.farm.now c.args.report c.args.moment c.requires.refuses c.args.refused (sym c.is_some.ensures ∙ c.if-is_some.false) c.in_ok-left.left
    c.in_ok-left.ensures c.reply_alone.result c.reply_alone.ensures
