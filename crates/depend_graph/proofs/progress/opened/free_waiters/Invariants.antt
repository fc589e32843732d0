use Rattle.std.proofs.Common.{◌≡◌, ◌+◌, length, drop}
use Rattle.std.specs.List.{count_by}
use Rattle.std.specs.Vec.{vec_capacity}
use Rattle.depend_graph.specs.Flow.{all_freed, is_positive, waiting_of}
use Rattle.depend_graph.proofs.progress.opened.free_waiters.Given as goal

abbrev pub invariant-loop-waiter : goal.invariant-loop-waiter
invariant-loop-waiter l = record {
  freed : all_freed (waiting_of l.unmet.items l.slots.items) (drop l.waiter-index l.waiters) ≡ all_freed (waiting_of l.fn.unmet.items l.fn.slots.items) l.waiters;
  room : length l.slots.items + count_by is_positive l.unmet.items ≡ length l.fn.slots.items + count_by is_positive l.fn.unmet.items;
  capacity : vec_capacity l.slots ≡ vec_capacity l.fn.slots;
}
