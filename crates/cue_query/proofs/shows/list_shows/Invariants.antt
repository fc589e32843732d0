use Rattle.std.proofs.Common.{◌-◌, length, map, drop}
use Rattle.farm_lines.specs.Lists.{show_row}
use Rattle.cue_query.proofs.InTurn.{IsListedTo}
use Rattle.cue_query.proofs.shows.list_shows.Given as goal

-- so many were listed as the number is
abbrev pub invariant-loop-show : goal.invariant-loop-show
invariant-loop-show l = IsListedTo l.fn.page l.page l.number (map show_row (drop l.number l.farm.shows)) (map show_row l.farm.shows)

abbrev pub decreases-loop-show : goal.decreases-loop-show
decreases-loop-show l = length l.farm.shows - l.number
