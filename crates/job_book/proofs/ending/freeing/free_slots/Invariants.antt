use Rattle.std.proofs.Common.{◌≡◌, drop, length}
use Rattle.std.specs.Vec.{vec_capacity}
use Rattle.job_book.specs.Freed.{freed_at}
use Rattle.job_book.specs.Inside.{KeepsFree}
use Rattle.job_book.proofs.ending.freeing.free_slots.Given as goal

abbrev pub invariant-loop-place : goal.invariant-loop-place
invariant-loop-place l = record {
  slots : freed_at l.job (drop l.place-index l.places) l.slots.items ≡ freed_at l.job l.places l.fn.slots.items;
  free : KeepsFree l.so_far.count l.so_far.lowest l.slots.items;
  slot_count : length l.slots.items ≡ length l.fn.slots.items;
  capacity : vec_capacity l.slots ≡ vec_capacity l.fn.slots;
}
