-- The list is answered as alone.
use Rattle.line_answers.specs.Lines.{shown}
use Rattle.shared_lines.proofs.LineAnswers.{listed}
use Rattle.shared_lines.proofs.listing.answer_query.Goals as goal

pub returns-clause-answer : goal.returns-clause-answer
returns-clause-answer g c = λ moment.
    listed c.args.pass.now c.list_held.new.pass c.args.query moment (shown c.list_held.result) c.list_held.ensures.caught c.list_held.ensures.line

pub returns-clause-grows : goal.returns-clause-grows
returns-clause-grows g c = c.list_held.ensures.caught.learns.journal
