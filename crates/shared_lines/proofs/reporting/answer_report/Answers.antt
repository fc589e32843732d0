-- The report was recorded and replied to, or it wasn't.
use Rattle.std.proofs.Common.{refl}
use Rattle.line_answers.specs.booking_recorder.proofs.Rests.{prefix_then}
use Rattle.shared_lines.proofs.ReportAnswers.{heard_host}
use Rattle.shared_lines.proofs.reporting.answer_report.Goals as goal

pub answer_heard-requires-clause-host : goal.answer_heard-requires-clause-host
answer_heard-requires-clause-host g c =
    heard_host c.args.pass.now c.hear_locked-came.new.pass c.args.report c.args.moment c.hear_locked-came.result c.hear_locked-came.ensures.hears

pub returns-clause-answer : goal.returns-clause-answer
returns-clause-answer g c = c.answer_heard.ensures.answer c.args.pass.now c.args.report (refl, c.as_slice.ensures) c.hear_locked-came.ensures.hears

pub returns-clause-grows : goal.returns-clause-grows
returns-clause-grows g c =
    prefix_then c.args.pass.now.view.journal c.hear_locked-came.new.pass.view.journal c.answer_heard.new.pass.view.journal c.hear_locked-came.ensures.grows
    c.answer_heard.ensures.grows
