use Rattle.std.proofs.Common.{◌≡◌, take}
use Rattle.rqd_core.specs.Life.{attempts_of}
use Rattle.rqd_core.proofs.planned.attempts_of.Given as goal

abbrev pub invariant-loop-run : goal.invariant-loop-run
invariant-loop-run l = l.attempts ≡ attempts_of (take l.run-index l.running)
