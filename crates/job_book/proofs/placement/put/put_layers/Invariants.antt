use Rattle.std.proofs.Common.{◌≡◌, drop, length, map, take}
use Rattle.std.specs.List.{concat}
use Rattle.std.specs.Vec.{vec_capacity}
use Rattle.farm_types.specs.declared.job.LayerSpec.{LayerSpec}
use Rattle.farm_types.specs.Jobs.{frames_in, frames_of}
use Rattle.job_book.specs.Layers.{count_of, marks_of, slots_of}
use Rattle.job_book.specs.Lowest.{AreNext, filled}
use Rattle.job_book.proofs.placement.put.put_layers.Given as goal

abbrev pub invariant-loop-place : goal.invariant-loop-place
invariant-loop-place l = record {
  filled : filled (drop l.done l.places) (frames_of l.job l.place (drop l.place l.layers)) l.slots.items ≡ filled l.places (frames_of l.job 0 l.layers) l.fn.slots.items;
  next : AreNext (drop l.done l.places) (length l.slots.items);
  so_far : l.done ≡ frames_in (take l.place l.layers);
  places : concat (map slots_of (take l.place l.index.items)) ≡ take l.done l.places;
  lengths : map count_of l.index.items ≡ map (λ (k : LayerSpec). length k.numbers) l.layers;
  marks : map marks_of l.index.items ≡ map marks_of l.fn.index.items;
  capacity : vec_capacity l.slots ≡ vec_capacity l.fn.slots;
}
