use Rattle.std.proofs.Common.{◌≡◌, map, take}
use Rattle.farm_types.specs.Depends.{layer_shape}
use Rattle.farm_places.proofs.shapes.layer_shapes.Given as goal

abbrev pub invariant-loop-layer : goal.invariant-loop-layer
invariant-loop-layer l = l.shapes ≡ map (layer_shape l.jobs.slots) (take l.layer-index l.layers)
