use Rattle.std.proofs.Common.{◌≡◌, drop}
use Rattle.stored_farm.specs.Ends.{first_flagged, goes_on}
use Rattle.stored_farm.proofs.ends.first_going.Given as goal

abbrev pub invariant-loop-place : goal.invariant-loop-place
invariant-loop-place l = first_flagged goes_on l.flags l.place (drop l.place l.slots) ≡ first_flagged goes_on l.flags 0 l.slots
