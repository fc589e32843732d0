-- The line was written, or memory ran out for it.
use Rattle.std.proofs.Common.{inl, inr, refl}
use Rattle.farm_lines.specs.Reply.{report_reply}
use Rattle.line_answers.specs.Launches.{told}
use Rattle.line_answers.proofs.ReportLemmas.{reports_text}
use Rattle.line_answers.proofs.reporting.report_line.Goals as goal

pub returns-in-Ok : goal.returns-in-Ok
returns-in-Ok c =
    inl (reports_text c.in-Ok.line (report_reply c.args.farm.now c.args.host (told c.args.heard.now c.args.running.now) c.args.cut) c.in-Ok.ensures)

pub returns-in-Err : goal.returns-in-Err
returns-in-Err c = inr refl
