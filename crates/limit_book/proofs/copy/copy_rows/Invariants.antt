use Rattle.std.proofs.Common.{◌≡◌, ◌≤◌, take}
use Rattle.std.specs.Vec.{vec_capacity}
use Rattle.limit_book.proofs.copy.copy_rows.Given as goal
use Rattle.farm_types.specs.declared.limits.TheConstants.{MOST_LIMITS}

abbrev pub invariant-loop-row : goal.invariant-loop-row
invariant-loop-row l = record {
  copied : l.copies.items ≡ take l.row-index l.rows;
  capacity : MOST_LIMITS ≤ vec_capacity l.copies;
}
