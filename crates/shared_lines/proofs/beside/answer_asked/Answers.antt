-- A list is answered.
use Rattle.farm_lines.specs.declared.asked.Asked.TheVariants as asked
use Rattle.line_answers.specs.Lines.{shown}
use Rattle.shared_lines.proofs.LineAnswers.{answered_as}
use Rattle.shared_lines.proofs.beside.answer_asked.Goals as goal

pub returns-in-List-clause-answer : goal.returns-in-List-clause-answer
returns-in-List-clause-answer g c =
    answered_as c.args.pass.now c.answer_query.new.pass c.args.moment (shown c.answer_query.result) c.args.asked (asked.List c.in-List.query) c.in-List.is
    (c.answer_query.ensures.answer c.args.moment)
