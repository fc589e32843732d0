use Rattle.std.proofs.Common.{◌≡◌, ◌++◌, drop, map}
use Rattle.farm_finish.specs.Gone.{layer_gone}
use Rattle.farm_finish.proofs.rows_gone.layers_go.Given as goal

abbrev pub invariant-loop-layer : goal.invariant-loop-layer
invariant-loop-layer l = l.changes.items ++ map (layer_gone l.job) (drop l.layer-index l.layers) ≡ l.fn.changes.items ++ map (layer_gone l.job) l.layers
