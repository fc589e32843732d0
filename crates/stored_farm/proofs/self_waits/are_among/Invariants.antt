use Rattle.std.proofs.Common.{◌≡◌, drop}
use Rattle.std.specs.List.{list_any}
use Rattle.stored_farm.specs.SelfWaits.{is_among}
use Rattle.stored_farm.proofs.self_waits.are_among.Given as goal

abbrev pub invariant-loop-waiter : goal.invariant-loop-waiter
invariant-loop-waiter l = list_any (is_among l.targets) (drop l.waiter-index l.waiters) ≡ list_any (is_among l.targets) l.waiters
