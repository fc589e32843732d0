use Rattle.std.proofs.Common.{◌≡◌, map, take}
use Rattle.farm_places.specs.Ends.{number_at}
use Rattle.farm_places.proofs.shapes.numbers_of.Given as goal

abbrev pub invariant-loop-slot : goal.invariant-loop-slot
invariant-loop-slot l = l.numbers ≡ map (number_at l.jobs.slots) (take l.slot-index l.slots)
