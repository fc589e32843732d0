use Rattle.std.proofs.Common.{◌≡◌, drop}
use Rattle.stored_farm.specs.Ends.{first_flagged, hangs}
use Rattle.stored_farm.proofs.ends.first_hanging.Given as goal

abbrev pub invariant-loop-place : goal.invariant-loop-place
invariant-loop-place l = first_flagged hangs l.flags l.place (drop l.place l.slots) ≡ first_flagged hangs l.flags 0 l.slots
