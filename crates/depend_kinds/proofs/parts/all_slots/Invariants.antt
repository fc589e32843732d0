-- The slots so far and those of the layers that are left are all.
use Rattle.std.proofs.Common.{◌≡◌, ◌++◌, drop}
use Rattle.farm_types.specs.Groups.{all_slots}
use Rattle.depend_kinds.proofs.parts.all_slots.Given as goal

abbrev pub invariant-loop-layer : goal.invariant-loop-layer
invariant-loop-layer l = l.slots.items ++ all_slots (drop l.layer-index l.layers) ≡ all_slots l.layers
