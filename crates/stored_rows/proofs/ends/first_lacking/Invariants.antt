use Rattle.std.proofs.Common.{◌≡◌, drop}
use Rattle.farm_rows.specs.Recovery.{first_job, lacks_frames}
use Rattle.stored_rows.proofs.ends.first_lacking.Given as goal

abbrev pub invariant-loop-job : goal.invariant-loop-job
invariant-loop-job l = first_job (lacks_frames l.rows.farm) (drop l.job-index l.jobs) ≡ first_job (lacks_frames l.rows.farm) l.jobs
