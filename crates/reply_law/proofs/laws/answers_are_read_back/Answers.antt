-- Each reply within its forms and limits is read back, and that reply is.
use Rattle.farm_lines.specs.Transcript.{answer_to}
use Rattle.reply_law.proofs.laws.answers_are_read_back.Goals as goal

pub returns : goal.returns
returns c = λ f line moment mark kept low. c.replies_are_read_back.ensures (answer_to f line moment mark).reply (c.answers_are_formed.ensures f line moment mark kept low)
