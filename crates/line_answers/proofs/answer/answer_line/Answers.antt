-- What the line asks is answered, or its fault told.
use Rattle.dispatcher.specs.booking_recorder.specs.Going.{GoesOn}
use Rattle.line_answers.specs.Lines.{shown}
use Rattle.line_answers.proofs.AnswerLemmas.{asked_line, unasked_line, unstored_asked}
use Rattle.line_answers.proofs.ToldLemmas.{GoesOn-same}
use Rattle.line_answers.proofs.answer.answer_line.Goals as goal

pub returns-in-Ok-clause-answer : goal.returns-in-Ok-clause-answer
returns-in-Ok-clause-answer g c =
    asked_line c.args.recorder.now.farm c.args.line.now c.args.moment c.answer_asked.new.recorder.farm (shown c.answer_asked.result)
    (GoesOn g.K.Keeper.commits g.K.Keeper.tells g.K.Keeper.faults c.args.recorder.now c.answer_asked.new.recorder) c.in-Ok.asked c.requires.limit
    c.in-Ok.ensures.asks c.answer_asked.ensures.answer

pub returns-in-Err-clause-answer : goal.returns-in-Err-clause-answer
returns-in-Err-clause-answer g c =
    unasked_line c.args.recorder.now.farm c.args.line.now c.args.moment c.in-Err.told
    (GoesOn g.K.Keeper.commits g.K.Keeper.tells g.K.Keeper.faults c.args.recorder.now c.args.recorder.now)
    (GoesOn-same g.K.Keeper.commits g.K.Keeper.tells g.K.Keeper.faults c.args.recorder.now) c.requires.limit c.in-Err.ensures.asks

pub returns-in-Ok-clause-same : goal.returns-in-Ok-clause-same
returns-in-Ok-clause-same g c = λ none.
    c.answer_asked.ensures.same
    (unstored_asked c.args.recorder.now.farm c.args.line.now c.args.moment c.in-Ok.asked c.requires.limit c.in-Ok.ensures.asks none)
