use Rattle.std.proofs.Common.{◌≡◌, ◌++◌, drop}
use Rattle.depend_graph.specs.Trial.{waiters_left}
use Rattle.depend_graph.proofs.trials.trying.free_left.Given as goal

abbrev pub invariant-loop-group : goal.invariant-loop-group
invariant-loop-group l = l.freed.items ++ waiters_left (drop l.group l.listed.groups) (drop l.group l.listed.counts) ≡ l.fn.freed.items ++ waiters_left l.listed.groups l.listed.counts
