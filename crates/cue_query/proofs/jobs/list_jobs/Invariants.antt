use Rattle.std.proofs.Common.{◌-◌, map}
use Rattle.farm_lines.specs.Lists.{job_row}
use Rattle.cue_query.proofs.Listed.{IsAtRow}
use Rattle.cue_query.proofs.jobs.list_jobs.Given as goal

-- those before the place were listed
abbrev pub invariant-loop-place : goal.invariant-loop-place
invariant-loop-place l = IsAtRow l.fn.page l.page l.place (map (job_row l.farm) l.farm.jobs)

abbrev pub decreases-loop-place : goal.decreases-loop-place
decreases-loop-place l = l.count - l.place
