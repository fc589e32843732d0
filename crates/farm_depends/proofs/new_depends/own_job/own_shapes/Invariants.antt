use Rattle.std.proofs.Common.{◌≡◌, ◌++◌, drop}
use Rattle.farm_depends.specs.Placed.{own_shapes}
use Rattle.farm_depends.proofs.new_depends.own_job.own_shapes.Given as goal

abbrev pub invariant-loop-place : goal.invariant-loop-place
invariant-loop-place l = l.shapes ++ own_shapes (drop l.place l.layers) (drop l.place l.places) ≡ own_shapes l.layers l.places
