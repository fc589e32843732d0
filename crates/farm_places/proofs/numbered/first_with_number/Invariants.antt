use Rattle.std.proofs.Common.{◌≡◌, drop, find}
use Rattle.farm_places.specs.Frames.{has_number_at}
use Rattle.farm_places.proofs.numbered.first_with_number.Given as goal

abbrev pub invariant-loop-slot : goal.invariant-loop-slot
invariant-loop-slot l = find (has_number_at l.jobs.slots l.number) (drop l.slot-index l.slots) ≡ find (has_number_at l.jobs.slots l.number) l.slots
