use Rattle.std.proofs.Common.{◌≡◌, ◌≤◌, take}
use Rattle.std.specs.Vec.{vec_capacity}
use Rattle.job_entries.proofs.copy.copies.Given as goal

abbrev pub invariant-loop-row : goal.invariant-loop-row
invariant-loop-row g l = record {
  copied : l.copies.items ≡ take l.row-index l.rows;
  capacity : l.capacity ≤ vec_capacity l.copies;
}
