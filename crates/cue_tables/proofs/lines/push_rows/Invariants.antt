-- The text so far and the lines that are left are the text with all lines.
use Rattle.std.proofs.Common.{◌≡◌, ◌++◌, drop, string_bytes}
use Rattle.cue_tables.specs.Tables.{lines_text}
use Rattle.cue_tables.proofs.lines.push_rows.Given as goal

abbrev pub invariant-loop-row : goal.invariant-loop-row
invariant-loop-row l = string_bytes l.text ++ lines_text l.widths (drop l.row-index l.rows) ≡ string_bytes l.fn.text ++ lines_text l.widths l.rows
