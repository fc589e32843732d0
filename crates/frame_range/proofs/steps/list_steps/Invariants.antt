use Rattle.std.proofs.Common.{◌≡◌, ◌+◌, ◌-◌, ◌/◌, ◌≤◌}
use Rattle.frame_range.specs.Away.{away, stride}
use Rattle.frame_range.specs.Places.{with_all}
use Rattle.frame_range.specs.Steps.{steps_from}
use Rattle.frame_range.proofs.steps.list_steps.Given as goal

abbrev pub invariant-loop-offset : goal.invariant-loop-offset
invariant-loop-offset l = record {
  within : l.offset ≤ l.span;
  so_far : with_all l.listing (steps_from (away l.first l.up l.offset) (stride l.up l.size) ((l.span - l.offset) / l.size + 1))
      ≡ with_all l.fn.listing (steps_from l.first (stride l.up l.size) (l.span / l.size + 1));
}

abbrev pub decreases-loop-offset : goal.decreases-loop-offset
decreases-loop-offset l = l.span - l.offset
