use Rattle.std.proofs.Common.{◌≡◌, ◌≤◌, take}
use Rattle.std.specs.Vec.{vec_capacity}
use Rattle.job_index.specs.declared.limits.TheConstants.{MOST_JOBS}
use Rattle.job_index.proofs.job_names.copies_of.Given as goal

abbrev pub invariant-loop-named : goal.invariant-loop-named
invariant-loop-named l = record {
  copied : l.copies.items ≡ take l.named-index l.late;
  capacity : MOST_JOBS ≤ vec_capacity l.copies;
}
