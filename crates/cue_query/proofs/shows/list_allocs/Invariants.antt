use Rattle.std.proofs.Common.{◌-◌, length, map, drop}
use Rattle.farm_lines.specs.Lists.{alloc_row}
use Rattle.cue_query.proofs.InTurn.{IsListedTo}
use Rattle.cue_query.proofs.shows.list_allocs.Given as goal

-- so many were listed as the number is
abbrev pub invariant-loop-row : goal.invariant-loop-row
invariant-loop-row l = IsListedTo l.fn.page l.page l.number (map alloc_row (drop l.number l.farm.allocs)) (map alloc_row l.farm.allocs)

abbrev pub decreases-loop-row : goal.decreases-loop-row
decreases-loop-row l = length l.farm.allocs - l.number
