-- What was found so far is what the front of the list gives.
use Rattle.std.proofs.Common.{◌≡◌, take}
use Rattle.report_codec.specs.Launches.{attempts_in}
use Rattle.report_codec.proofs.report_line.attempts_in.Given as goal

abbrev pub invariant-loop-launch : goal.invariant-loop-launch
invariant-loop-launch l = l.attempts ≡ attempts_in (take l.launch-index l.launches)
