use Rattle.std.proofs.Common.{◌≡◌, drop}
use Rattle.depend_graph.specs.Added.{all_released}
use Rattle.depend_graph.proofs.going.releasing.release_waiters.Given as goal

abbrev pub invariant-loop-waiter : goal.invariant-loop-waiter
invariant-loop-waiter l = all_released l.unmet.items (drop l.waiter-index l.waiters) ≡ all_released l.fn.unmet.items l.waiters
