use Rattle.std.proofs.Common.{◌≡◌, ◌+◌, ◌-◌, ◌≤◌, length}
use Rattle.frame_range.specs.Away.{others_from}
use Rattle.frame_range.specs.Places.{with_all}
use Rattle.frame_range.specs.declared.limits.TheConstants.{MOST_NUMBERS}
use Rattle.frame_range.proofs.steps.list_others.Given as goal

abbrev pub invariant-loop-offset : goal.invariant-loop-offset
invariant-loop-offset l = record {
  few : length l.listing ≤ MOST_NUMBERS;
  so_far : with_all l.listing (others_from l.first l.up l.size l.offset ((l.span + 1) - l.offset))
      ≡ with_all l.fn.listing (others_from l.first l.up l.size 0 (l.span + 1));
}
