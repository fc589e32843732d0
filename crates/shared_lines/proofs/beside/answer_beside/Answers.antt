-- What the line asks is answered, or its fault told.
use Rattle.line_answers.specs.Lines.{shown}
use Rattle.shared_lines.proofs.LineAnswers.{asked_so, unasked}
use Rattle.shared_lines.proofs.beside.answer_beside.Goals as goal

pub returns-in-Ok-clause-answer : goal.returns-in-Ok-clause-answer
returns-in-Ok-clause-answer g c =
    asked_so c.args.pass.now c.answer_asked.new.pass c.args.line.now c.args.moment c.in-Ok.asked (shown c.answer_asked.result) c.in-Ok.ensures.asks
    c.answer_asked.ensures.answer

pub returns-in-Err-clause-answer : goal.returns-in-Err-clause-answer
returns-in-Err-clause-answer g c = unasked c.args.pass.now c.args.line.now c.args.moment c.in-Err.told c.in-Err.ensures.asks
