use Rattle.std.proofs.Common.{◌≡◌, take}
use Rattle.farm_types.specs.Step.{limits_of}
use Rattle.farm_places.proofs.limits.limits_among.Given as goal

abbrev pub invariant-loop-layer : goal.invariant-loop-layer
invariant-loop-layer l = l.limits ≡ limits_of l.books.farm.limits (take l.layer-index l.layers)
