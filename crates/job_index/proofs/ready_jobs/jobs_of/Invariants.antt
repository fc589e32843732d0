use Rattle.std.proofs.Common.{◌≡◌, ◌≤◌, map, take}
use Rattle.std.specs.Vec.{vec_capacity}
use Rattle.job_index.specs.Keys.{job_of}
use Rattle.job_index.specs.declared.limits.TheConstants.{MOST_JOBS}
use Rattle.job_index.proofs.ready_jobs.jobs_of.Given as goal

abbrev pub invariant-loop-key : goal.invariant-loop-key
invariant-loop-key l = record {
  made : l.jobs.items ≡ map job_of (take l.key-index l.keys);
  capacity : MOST_JOBS ≤ vec_capacity l.jobs;
}
