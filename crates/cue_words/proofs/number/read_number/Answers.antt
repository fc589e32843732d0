use Rattle.std.proofs.lemmas.Str.Pattern.{strip_prefix_char}
use Rattle.std.specs.Prelude.{None}
use Rattle.std.proofs.Common.{◌∙◌, arith}
use Rattle.cue_words.proofs.Numerals.{unsigned_is}
use Rattle.cue_words.proofs.number.read_number.Goals as goal

pub returns-in-None : goal.returns-in-None
returns-in-None c = c.read_positive.ensures ∙ unsigned_is c.args.word.now (strip_prefix_char 45 c.args.word.now None c.in-None.ensures.cases (omega arith))
