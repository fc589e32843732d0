use Rattle.std.proofs.Common.{◌≡◌, drop}
use Rattle.farm_depends.specs.Placed.{name_in}
use Rattle.farm_depends.proofs.new_depends.own_job.name_in.Given as goal

abbrev pub invariant-loop-layer : goal.invariant-loop-layer
invariant-loop-layer l = name_in (drop l.layer-index l.layers) l.slot ≡ name_in l.layers l.slot
