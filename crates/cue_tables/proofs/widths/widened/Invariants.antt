-- The widths so far and those of the columns that are left are the wider ones.
use Rattle.std.proofs.Common.{◌≡◌, ◌++◌, drop, map}
use Rattle.cue_tables.specs.Tables.{wider, width_of}
use Rattle.cue_tables.proofs.widths.widened.Given as goal

abbrev pub invariant-loop-column : goal.invariant-loop-column
invariant-loop-column l =
    l.made.items ++ wider (drop l.column l.widths) (map width_of (drop l.column l.line)) ≡ wider l.widths (map width_of l.line)
