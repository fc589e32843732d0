-- Nothing hindered it.
use Rattle.std.proofs.Common.{subst}
use Rattle.std.specs.Prelude.{IfErr, Result}
use Rattle.line_answers.specs.declared.hindered.Hindered.{Hindered}
use Rattle.line_answers.specs.declared.reply_line.ReplyLine.{ReplyLine}
use Rattle.line_answers.proofs.answer.unhindered.Goals as goal

pub unreachable-requires : goal.unreachable-requires
unreachable-requires c = absurd (subst (λ (r : Result ReplyLine Hindered). IfErr r (λ why. ⊥)) c.in-Err.is c.requires)
