-- The lemma, at any line.
use Rattle.reply_law.proofs.Answers.{answer_formed}
use Rattle.reply_law.proofs.laws.answers_are_formed.Goals as goal

pub returns : goal.returns
returns c = λ f line moment mark kept low. answer_formed f line moment mark kept low
