-- The text so far and the cells that are left are the text with the whole line.
use Rattle.std.proofs.Common.{◌≡◌, ◌++◌, drop, string_bytes}
use Rattle.cue_tables.specs.Tables.{line_text}
use Rattle.cue_tables.proofs.lines.push_cells.Given as goal

abbrev pub invariant-loop-column : goal.invariant-loop-column
invariant-loop-column l =
    string_bytes l.text ++ line_text (drop l.column l.widths) (drop l.column l.line) ≡ string_bytes l.fn.text ++ line_text l.widths l.line
