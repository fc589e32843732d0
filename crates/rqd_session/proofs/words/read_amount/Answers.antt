use Rattle.rqd_session.proofs.NumberLemmas.{amount_read}
use Rattle.rqd_session.proofs.words.read_amount.Goals as goal

pub returns-then-is_number : goal.returns-then-is_number
returns-then-is_number c = amount_read c.args.text.now c.parse.result c.ok.result c.parse.ensures.value.0 c.if-is_number.ensures c.ok.ensures.value
