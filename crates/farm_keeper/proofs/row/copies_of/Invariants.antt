-- The copies and what is left to copy are all of the list.
use Rattle.std.proofs.Common.{◌≡◌, ◌++◌, drop}
use Rattle.farm_keeper.proofs.row.copies_of.Given as goal

abbrev pub invariant-loop-row : goal.invariant-loop-row
invariant-loop-row l = l.copies.items ++ drop l.row-index l.rows ≡ l.rows
