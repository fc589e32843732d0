use Rattle.command_text.proofs.Words.{word_stripped}
use Rattle.command_text.proofs.token.text_after.Goals as goal

pub returns : goal.returns
returns c = word_stripped c.args.word.now c.args.text.now c.strip_prefix.result c.strip_prefix.ensures.cases
