use Rattle.std.proofs.Common.{◌≡◌, take}
use Rattle.rqd_core.specs.Replies.{not_acked}
use Rattle.rqd_core.proofs.taking.not_acked.Given as goal

abbrev pub invariant-loop-item : goal.invariant-loop-item
invariant-loop-item l = l.left ≡ not_acked l.acks (take l.item-index l.finished)
