-- A reply's status tells of no failed read or write.
use Rattle.std.proofs.Common.{sym, ◌∙◌}
use Rattle.farm_lines.specs.ReplyLines.{reply_of}
use Rattle.cue_tool.proofs.ShownLemmas.{not_read, not_write, of_reply}
use Rattle.cue_tool.proofs.run.print_line.Goals as goal

pub returns-in-Ok-Some-clause-reads_nothing : goal.returns-in-Ok-Some-clause-reads_nothing
returns-in-Ok-Some-clause-reads_nothing g c =
    let printed = c.print.ensures.prints in
    not_read c.print.result printed.0 _ (of_reply c.args.words.now c.args.line.now (reply_of c.args.line.now) c.in-Ok-Some.shown (sym c.in-Ok-Some.field-0-is ∙ c.in-Ok-Some.ensures))
    printed.2

pub returns-in-Ok-Some-clause-write : goal.returns-in-Ok-Some-clause-write
returns-in-Ok-Some-clause-write g c failed =
    c.print.ensures.write (λ same.
    not_write c.in-Ok-Some.shown.status (of_reply c.args.words.now c.args.line.now (reply_of c.args.line.now) c.in-Ok-Some.shown (sym c.in-Ok-Some.field-0-is ∙ c.in-Ok-Some.ensures))
    (sym same ∙ failed))
