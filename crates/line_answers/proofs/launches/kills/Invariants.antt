-- What was found so far and what the rest of the list gives is what all of it gives.
use Rattle.std.proofs.Common.{◌≡◌, ◌++◌, drop}
use Rattle.farm_lines.specs.Reply.{kills_of}
use Rattle.line_answers.proofs.launches.kills.Given as goal

abbrev pub invariant-loop-attempt : goal.invariant-loop-attempt
invariant-loop-attempt l =
    l.kills ++ kills_of l.farm l.host l.boot (drop l.attempt-index l.running) ≡ kills_of l.farm l.host l.boot l.running
