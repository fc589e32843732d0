-- The lemma.
use Rattle.line_answers.proofs.OutcomeLemmas.{answered_fully}
use Rattle.line_answers.proofs.laws.lines_are_answered_by_what_they_ask.Goals as goal

pub returns : goal.returns
returns c = answered_fully
