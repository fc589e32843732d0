use Rattle.std.proofs.Common.{◌-◌}
use Rattle.farm_lines.specs.Lists.{layer_rows}
use Rattle.cue_query.proofs.Listed.{IsAtRow}
use Rattle.cue_query.proofs.layers.list_layers.Given as goal

-- those before the place were listed
abbrev pub invariant-loop-place : goal.invariant-loop-place
invariant-loop-place l = IsAtRow l.fn.page l.page l.place (layer_rows l.farm l.fn.job)

abbrev pub decreases-loop-place : goal.decreases-loop-place
decreases-loop-place l = l.count - l.place
