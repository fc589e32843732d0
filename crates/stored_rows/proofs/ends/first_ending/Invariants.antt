use Rattle.std.proofs.Common.{◌≡◌, drop}
use Rattle.stored_rows.specs.Known.{first_ending}
use Rattle.stored_rows.proofs.ends.first_ending.Given as goal

abbrev pub invariant-loop-place : goal.invariant-loop-place
invariant-loop-place l = first_ending (drop l.place l.jobs) (drop l.place l.left) ≡ first_ending l.jobs l.left
