use Rattle.std.proofs.Common.{◌≡◌, ◌≤◌, take, length}
use Rattle.frame_range.specs.Sections.{without_back}
use Rattle.frame_range.proofs.read.without_back.Given as goal

abbrev pub invariant-loop-end : goal.invariant-loop-end
invariant-loop-end l = record {
  within : l.end ≤ length l.text;
  so_far : without_back (take l.end l.text) ≡ without_back l.text;
}

abbrev pub decreases-loop-end : goal.decreases-loop-end
decreases-loop-end l = l.end
