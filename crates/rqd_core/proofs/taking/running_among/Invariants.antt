use Rattle.std.proofs.Common.{◌≡◌, take}
use Rattle.rqd_core.specs.Replies.{running_among}
use Rattle.rqd_core.proofs.taking.running_among.Given as goal

abbrev pub invariant-loop-attempt : goal.invariant-loop-attempt
invariant-loop-attempt l = l.found ≡ running_among l.running (take l.attempt-index l.attempts)
