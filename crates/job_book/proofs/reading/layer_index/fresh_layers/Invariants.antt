use Rattle.std.proofs.Common.{◌≡◌, map, take}
use Rattle.job_book.specs.Layers.{fresh_places}
use Rattle.job_book.proofs.reading.layer_index.fresh_layers.Given as goal

abbrev pub invariant-loop-layer : goal.invariant-loop-layer
invariant-loop-layer l = l.index.items ≡ map fresh_places (take l.layer-index l.layers)
