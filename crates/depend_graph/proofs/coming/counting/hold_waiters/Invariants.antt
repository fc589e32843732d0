use Rattle.std.proofs.Common.{◌≡◌, drop}
use Rattle.depend_graph.specs.Added.{all_held}
use Rattle.depend_graph.proofs.coming.counting.hold_waiters.Given as goal

abbrev pub invariant-loop-waiter : goal.invariant-loop-waiter
invariant-loop-waiter l = all_held l.unmet.items (drop l.waiter-index l.waiters) ≡ all_held l.fn.unmet.items l.waiters
