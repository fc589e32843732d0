use Rattle.std.proofs.Common.{◌-◌}
use Rattle.farm_lines.specs.Lists.{frames_in}
use Rattle.cue_query.proofs.Listed.{IsAtRow}
use Rattle.cue_query.proofs.frames.list_frames_in.Given as goal

-- those before the place were listed
abbrev pub invariant-loop-place : goal.invariant-loop-place
invariant-loop-place l = IsAtRow l.fn.page l.page l.place (frames_in l.farm l.layer)

abbrev pub decreases-loop-place : goal.decreases-loop-place
decreases-loop-place l = l.count - l.place
