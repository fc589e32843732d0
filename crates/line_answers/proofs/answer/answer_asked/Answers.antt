-- A list is only replied to.
use Rattle.dispatcher.specs.booking_recorder.specs.Going.{GoesOn}
use Rattle.line_answers.specs.Lines.{shown}
use Rattle.line_answers.proofs.AnswerLemmas.{act_unbooked, answered_list, unstored_act, unstored_report}
use Rattle.line_answers.proofs.ToldLemmas.{GoesOn-same}
use Rattle.line_answers.proofs.answer.answer_asked.Goals as goal

pub answer_act-requires-clause-unbooked : goal.answer_act-requires-clause-unbooked
answer_act-requires-clause-unbooked g c = act_unbooked c.args.asked c.in-Act.act c.in-Act.is c.requires.unbooked

pub returns-in-List-clause-answer : goal.returns-in-List-clause-answer
returns-in-List-clause-answer g c =
    answered_list c.args.recorder.now.farm c.read.result.now c.args.moment (shown c.answer_list.result)
    (GoesOn g.K.Keeper.commits g.K.Keeper.tells g.K.Keeper.faults c.args.recorder.now c.args.recorder.now)
    (GoesOn-same g.K.Keeper.commits g.K.Keeper.tells g.K.Keeper.faults c.args.recorder.now) c.args.asked c.in-List.query c.in-List.is c.read.ensures
    c.answer_list.ensures

pub returns-in-Report-clause-same : goal.returns-in-Report-clause-same
returns-in-Report-clause-same g c = λ none.
    c.answer_report.ensures.same (unstored_report c.args.recorder.now.farm c.args.moment c.args.asked c.in-Report.report c.in-Report.is none)

pub returns-in-Act-clause-same : goal.returns-in-Act-clause-same
returns-in-Act-clause-same g c = λ none.
    c.answer_act.ensures.same (unstored_act c.args.recorder.now.farm c.args.moment c.args.asked c.in-Act.act c.in-Act.is none)
