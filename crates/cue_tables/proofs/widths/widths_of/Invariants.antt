-- The widths so far, with those of the rows that are left, are the widths of all; there are as many as cells in the head.
use Rattle.std.proofs.Common.{◌≡◌, ◌∷◌, drop, length}
use Rattle.cue_tables.specs.Tables.{wider, widths_of}
use Rattle.cue_tables.proofs.widths.widths_of.Given as goal

abbrev pub invariant-loop-row : goal.invariant-loop-row
invariant-loop-row l = record {
  gives : wider l.widths.items (widths_of (drop l.row-index l.rows)) ≡ widths_of (l.head ∷ l.rows);
  long : length l.widths.items ≡ length l.head;
}
