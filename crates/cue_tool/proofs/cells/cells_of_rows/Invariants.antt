use Rattle.std.proofs.Common.{◌≡◌, ◌++◌, map, drop}
use Rattle.cue_tool.specs.Listings.{cells_of}
use Rattle.cue_tool.proofs.cells.cells_of_rows.Given as goal

abbrev pub invariant-loop-row : goal.invariant-loop-row
invariant-loop-row l = l.cells ++ map cells_of (drop l.row-index l.rows) ≡ map cells_of l.rows
