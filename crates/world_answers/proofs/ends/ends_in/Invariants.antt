use Rattle.std.proofs.Common.{drop}
use Rattle.world_answers.proofs.Ended.{IsEnding}
use Rattle.world_answers.proofs.ends.ends_in.Given as goal

abbrev pub invariant-loop-item : goal.invariant-loop-item
invariant-loop-item l = IsEnding l.farm l.host l.boot l.done l.ends (drop l.item-index l.done)
