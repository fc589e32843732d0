-- What the book of allocations keeps true of its fields.
use Rattle.std.specs.Prelude.{◌≤◌, length}
use Rattle.std.specs.Vec.{vec_capacity}
use Rattle.alloc_tags.specs.declared.allocs.Allocs.TheInside.{Inside}
use Rattle.farm_types.specs.declared.limits.TheConstants.{MOST_ALLOCS}

-- there are no more allocations than there may be, and there is capacity for all
pub record KeepsBook (book : Inside) : Type 0 where
  pub few : length book.rows.items ≤ MOST_ALLOCS
  pub capacity : MOST_ALLOCS ≤ vec_capacity book.rows
