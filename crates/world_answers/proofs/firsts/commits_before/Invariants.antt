use Rattle.world_answers.proofs.FirstOnes.{IsCounting}
use Rattle.world_answers.proofs.firsts.commits_before.Given as goal

abbrev pub invariant-loop-is_stored : goal.invariant-loop-is_stored
invariant-loop-is_stored l = IsCounting l.stored l.number l.is_stored-index l.place l.count
