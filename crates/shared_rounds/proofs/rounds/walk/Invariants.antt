use Rattle.std.proofs.Common.{◌≤◌, ◌+◌, drop, length}
use Rattle.std.specs.Vec.{vec_capacity}
use Rattle.shared_rounds.proofs.Walked.{IsWalking}
use Rattle.shared_rounds.proofs.rounds.walk.Given as goal

abbrev pub invariant-loop-candidate : goal.invariant-loop-candidate
invariant-loop-candidate g l =
    IsWalking g.N.Opened.opening l.moment l.fn.pass l.candidates l.pass l.left l.outcomes.items (drop l.candidate-index l.candidates)
    × (length l.outcomes.items + length (drop l.candidate-index l.candidates) ≤ vec_capacity l.outcomes)
