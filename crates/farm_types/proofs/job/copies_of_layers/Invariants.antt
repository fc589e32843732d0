-- The copies and what is left to copy are all of the list.
use Rattle.std.proofs.Common.{◌≡◌, ◌++◌, drop}
use Rattle.farm_types.proofs.job.copies_of_layers.Given as goal

abbrev pub invariant-loop-layer : goal.invariant-loop-layer
invariant-loop-layer l = l.copies ++ drop l.layer-index l.layers ≡ l.layers
