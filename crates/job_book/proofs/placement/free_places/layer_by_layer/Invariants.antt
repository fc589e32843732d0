use Rattle.std.proofs.Common.{◌≡◌, length, map, take}
use Rattle.std.specs.List.{concat}
use Rattle.farm_types.specs.declared.job.LayerSpec.{LayerSpec}
use Rattle.farm_types.specs.Jobs.{frames_in}
use Rattle.job_book.proofs.placement.free_places.layer_by_layer.Given as goal

abbrev pub invariant-loop-layer : goal.invariant-loop-layer
invariant-loop-layer l = record {
  so_far : l.first ≡ frames_in (take l.layer-index l.layers);
  lists : concat l.lists ≡ take l.first l.places;
  counts : map (λ ns. length ns) l.lists ≡ map (λ (k : LayerSpec). length k.numbers) (take l.layer-index l.layers);
}
