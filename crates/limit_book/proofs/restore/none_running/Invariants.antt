use Rattle.std.proofs.Common.{◌≡◌, ◌≤◌, replicate}
use Rattle.std.specs.Vec.{vec_capacity}
use Rattle.limit_book.proofs.restore.none_running.Given as goal
use Rattle.farm_types.specs.declared.limits.TheConstants.{MOST_LIMITS}

abbrev pub invariant-loop : goal.invariant-loop
invariant-loop l = record {
  items : l.zeros.items ≡ replicate l.counter 0;
  capacity : MOST_LIMITS ≤ vec_capacity l.zeros;
}
