use Rattle.std.proofs.Common.{◌≡◌, drop, length, map}
use Rattle.std.specs.Vec.{vec_capacity}
use Rattle.job_book.specs.Freed.{freed_all}
use Rattle.job_book.specs.Inside.{KeepsFree}
use Rattle.job_book.specs.Layers.{slots_of}
use Rattle.job_book.proofs.ending.freeing.free_layers.Given as goal

abbrev pub invariant-loop-layer : goal.invariant-loop-layer
invariant-loop-layer l = record {
  slots : freed_all l.job (map slots_of (drop l.layer-index l.index)) l.slots.items ≡ freed_all l.job (map slots_of l.index) l.fn.slots.items;
  free : KeepsFree l.so_far.count l.so_far.lowest l.slots.items;
  slot_count : length l.slots.items ≡ length l.fn.slots.items;
  capacity : vec_capacity l.slots ≡ vec_capacity l.fn.slots;
}
