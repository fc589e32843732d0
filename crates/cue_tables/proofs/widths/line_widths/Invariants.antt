-- The widths so far and those of the cells that are left are the line's.
use Rattle.std.proofs.Common.{◌≡◌, ◌++◌, drop, map}
use Rattle.cue_tables.specs.Tables.{width_of}
use Rattle.cue_tables.proofs.widths.line_widths.Given as goal

abbrev pub invariant-loop-cell : goal.invariant-loop-cell
invariant-loop-cell l = l.widths.items ++ map width_of (drop l.cell-index l.line) ≡ map width_of l.line
