use Rattle.std.proofs.Common.{drop}
use Rattle.world_answers.proofs.FirstOnes.{IsBefore}
use Rattle.world_answers.proofs.firsts.run_first.Given as goal

abbrev pub invariant-loop-entry : goal.invariant-loop-entry
invariant-loop-entry l = IsBefore l.farm l.entries l.number l.made l.left (drop l.entry-index l.entries)
