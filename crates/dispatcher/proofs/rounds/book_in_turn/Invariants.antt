use Rattle.std.proofs.Common.{drop}
use Rattle.dispatcher.proofs.Walking.{IsWalking}
use Rattle.dispatcher.proofs.rounds.book_in_turn.Given as goal

abbrev pub invariant-loop-candidate : goal.invariant-loop-candidate
invariant-loop-candidate g l =
    IsWalking g.K.Keeper.commits g.K.Keeper.tells g.K.Keeper.faults l.fn.recorder l.moment l.candidates l.recorder l.left (drop l.candidate-index l.candidates)
