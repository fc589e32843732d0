use Rattle.std.proofs.Common.{◌≡◌, ◌++◌, drop, map}
use Rattle.job_entries.specs.Entries.{held, row_of}
use Rattle.job_entries.proofs.rows.jobs_of.Given as goal

-- the rows so far and those of the places that are left are all
abbrev pub invariant-loop-place : goal.invariant-loop-place
invariant-loop-place l = l.rows.items ++ map row_of (held (drop l.place-index l.places)) ≡ map row_of (held l.places)
