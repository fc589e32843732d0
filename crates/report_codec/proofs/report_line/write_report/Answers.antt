-- The steps one after the other, where each list stands before the members after it.
use Rattle.farm_lines.specs.Reply.{report_data}
use Rattle.object_writer.proofs.Printed.{added_append}
use Rattle.report_codec.proofs.report_line.write_report.Goals as goal

pub returns-clause-text : goal.returns-clause-text
unfolding report_data
returns-clause-text g c =
    simp added_append (cc (c.in_ok-end_object.ensures, c.in_ok-whole-2.ensures, c.in_ok-truth.ensures, c.in_ok-launched.ensures.text, c.in_ok-write_attempts-2.ensures, c.in_ok-text.ensures, c.in_ok-whole.ensures, c.in_ok-write_attempts.ensures, c.in_ok-begin_object.ensures))
