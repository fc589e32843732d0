use Rattle.std.proofs.Common.{◌≡◌, ◌≤◌, take}
use Rattle.std.specs.Vec.{vec_capacity}
use Rattle.farm_books.proofs.shows.copy_rows.Given as goal
use Rattle.farm_types.specs.declared.limits.TheConstants.{MOST_SHOWS}

abbrev pub invariant-loop-row : goal.invariant-loop-row
invariant-loop-row l = record {
  copied : l.copies.items ≡ take l.row-index l.rows;
  capacity : MOST_SHOWS ≤ vec_capacity l.copies;
}
