use Rattle.std.proofs.Common.{drop}
use Rattle.world_answers.proofs.Walked.{IsWalking}
use Rattle.world_answers.proofs.walking.book_in_turn.Given as goal

abbrev pub invariant-loop-candidate : goal.invariant-loop-candidate
invariant-loop-candidate l = IsWalking l.fn.walk l.moment l.candidates l.left l.walk (drop l.candidate-index l.candidates)
