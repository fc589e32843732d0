use Rattle.std.proofs.Common.{◌≡◌, ◌≤◌, map, take}
use Rattle.std.specs.Vec.{vec_capacity}
use Rattle.farm_types.specs.declared.limits.TheConstants.{MOST_HOSTS}
use Rattle.host_book.specs.Inside.{watched_of}
use Rattle.host_book.proofs.restore.watched_of.Given as goal

abbrev pub invariant-loop-row : goal.invariant-loop-row
invariant-loop-row l = record {
  watched : l.watched.items ≡ map watched_of (take l.row-index l.rows);
  capacity : MOST_HOSTS ≤ vec_capacity l.watched;
}
