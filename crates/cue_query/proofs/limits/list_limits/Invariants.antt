use Rattle.std.proofs.Common.{◌-◌}
use Rattle.farm_lines.specs.Lists.{limit_rows}
use Rattle.cue_query.proofs.Listed.{IsAtRow}
use Rattle.cue_query.proofs.limits.list_limits.Given as goal

-- those before the place were listed
abbrev pub invariant-loop-place : goal.invariant-loop-place
invariant-loop-place l = IsAtRow l.fn.page l.page l.place (limit_rows l.farm 0 l.farm.limits)

abbrev pub decreases-loop-place : goal.decreases-loop-place
decreases-loop-place l = l.count - l.place
