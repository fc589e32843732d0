-- What the book of limits keeps true of its fields.
use Rattle.std.specs.Prelude.{◌≡◌, ◌≤◌, length}
use Rattle.std.specs.Vec.{vec_capacity}
use Rattle.farm_types.specs.declared.limits.TheConstants.{MOST_LIMITS}
use Rattle.limit_book.specs.declared.limits.Limits.TheInside.{Inside}
use Rattle.limit_book.specs.Book.{LimitLists}

abbrev pub lists_of : Inside → LimitLists
lists_of a = record { limits = a.rows.items; running = a.running.items }

-- there are no more limits than there may be, a count for each, and capacity for all
pub record KeepsBook (a : Inside) : Type 0 where
  pub few : length a.rows.items ≤ MOST_LIMITS
  pub counted : length a.running.items ≡ length a.rows.items
  pub capacity : MOST_LIMITS ≤ vec_capacity a.rows
  pub counts_capacity : MOST_LIMITS ≤ vec_capacity a.running
