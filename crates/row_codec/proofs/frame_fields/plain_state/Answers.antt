use Rattle.std.proofs.Common.{ap, ◌∙◌}
use Rattle.object_writer.specs.Written.{is_plain}
use Rattle.row_codec.proofs.PlainWords.{state_plain}
use Rattle.row_codec.proofs.frame_fields.plain_state.Goals as goal

pub returns-clause-plain : goal.returns-clause-plain
returns-clause-plain c = ap is_plain c.state_word.ensures ∙ state_plain c.args.state
