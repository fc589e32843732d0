use Rattle.std.proofs.Common.{◌≡◌, drop, length, take}
use Rattle.std.specs.Vec.{vec_capacity}
use Rattle.farm_types.specs.Jobs.{frames_from}
use Rattle.job_book.specs.Lowest.{AreNext, filled}
use Rattle.job_book.proofs.placement.put.put_layer.Given as goal

abbrev pub invariant-loop-position : goal.invariant-loop-position
invariant-loop-position l = record {
  filled : filled (drop l.position l.places) (frames_from l.job l.layer l.position (drop l.position l.numbers)) l.slots.items ≡ filled l.places (frames_from l.job l.layer 0 l.numbers) l.fn.slots.items;
  next : AreNext (drop l.position l.places) (length l.slots.items);
  places : take l.position l.frames.slots ≡ take l.position l.places;
  long : length l.frames.slots ≡ length l.numbers;
  marks : l.frames.waiting ≡ l.fn.frames.waiting;
  capacity : vec_capacity l.slots ≡ vec_capacity l.fn.slots;
}
