-- Any other reply than that the store failed is told in a line of its own, or memory ran out for it.
use Rattle.std.proofs.Common.{◌≡◌, rules}
use Rattle.farm_lines.specs.declared.reply.Reply.TheVariants as reply
use Rattle.line_answers.specs.Lines.{IsLineOf, shown}
use Rattle.line_answers.proofs.ReportLemmas.{line_of_other}
use Rattle.line_answers.proofs.answer_report.other_line.Goals as goal

pub returns-in_default : goal.returns-in_default
returns-in_default c =
    let other : c.args.reply ≡ reply.Store → ⊥ = search rules in
    let line : IsLineOf c.args.reply (shown c.line_of.result) = search rules in
    line_of_other c.args.reply (shown c.line_of.result) other line
