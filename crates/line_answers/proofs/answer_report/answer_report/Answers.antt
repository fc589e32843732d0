-- The line of what is replied.
use Rattle.dispatcher.specs.booking_recorder.specs.Going.{GoesOn}
use Rattle.line_answers.specs.Lines.{shown}
use Rattle.line_answers.proofs.ReportLemmas.{told_report}
use Rattle.line_answers.proofs.answer_report.answer_report.Goals as goal

pub returns-clause-answer : goal.returns-clause-answer
returns-clause-answer g c =
    told_report c.args.recorder.now.farm c.take_report-taken.new.recorder.farm c.args.report c.args.moment (shown c.told_line.result)
    c.take_report-taken.result (GoesOn g.K.Keeper.commits g.K.Keeper.tells g.K.Keeper.faults c.args.recorder.now c.take_report-taken.new.recorder)
    c.take_report-taken.ensures.taken c.told_line.ensures
