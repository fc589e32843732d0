use Rattle.std.proofs.Common.{◌≡◌, map, take}
use Rattle.job_entries.specs.Restored.{unplaced}
use Rattle.job_entries.proofs.restored_index.unplaced_layers.Given as goal

abbrev pub invariant-loop-layer : goal.invariant-loop-layer
invariant-loop-layer l = l.index.items ≡ map unplaced (take l.layer-index l.layers)
