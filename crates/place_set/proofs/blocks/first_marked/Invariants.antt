use Rattle.std.proofs.Common.{length, ◌-◌, ◌≡◌}
use Rattle.place_set.specs.Places.{first_from}
use Rattle.place_set.proofs.blocks.first_marked.Given as goal

-- no place from the first to this one is in the set
abbrev pub invariant-loop-place : goal.invariant-loop-place
invariant-loop-place l = first_from l.marks l.place ≡ first_from l.marks l.fn.from

abbrev pub decreases-loop-place : goal.decreases-loop-place
decreases-loop-place l = length l.marks - l.place
