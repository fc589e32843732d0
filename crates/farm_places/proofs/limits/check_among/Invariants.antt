use Rattle.std.proofs.Common.{◌≡◌, drop}
use Rattle.farm_types.specs.Step.{unknown_limit}
use Rattle.farm_places.proofs.limits.check_among.Given as goal

abbrev pub invariant-loop-layer : goal.invariant-loop-layer
invariant-loop-layer l = unknown_limit l.books.farm.limits (drop l.layer-index l.layers) ≡ unknown_limit l.books.farm.limits l.layers
