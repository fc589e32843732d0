use Rattle.std.proofs.Common.{◌-◌}
use Rattle.farm_lines.specs.Lists.{host_rows}
use Rattle.cue_query.proofs.Listed.{IsAtRow}
use Rattle.cue_query.proofs.hosts.list_hosts.Given as goal

-- those before the place were listed
abbrev pub invariant-loop-place : goal.invariant-loop-place
invariant-loop-place l = IsAtRow l.fn.page l.page l.place (host_rows l.farm 0 l.farm.hosts)

abbrev pub decreases-loop-place : goal.decreases-loop-place
decreases-loop-place l = l.count - l.place
