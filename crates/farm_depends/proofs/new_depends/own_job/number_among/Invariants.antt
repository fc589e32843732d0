use Rattle.std.proofs.Common.{◌≡◌, drop}
use Rattle.farm_depends.specs.Placed.{number_among}
use Rattle.farm_depends.proofs.new_depends.own_job.number_among.Given as goal

abbrev pub invariant-loop-place : goal.invariant-loop-place
invariant-loop-place l = number_among l.slot (drop l.place l.numbers) (drop l.place l.slots) ≡ number_among l.slot l.numbers l.slots
