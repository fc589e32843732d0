-- What was made so far is of the attempts in front.
use Rattle.std.proofs.Common.{◌≡◌, take}
use Rattle.farm_load.specs.Loads.{load_done}
use Rattle.farm_load.proofs.turns.done_items.Given as goal

abbrev pub invariant-loop-attempt : goal.invariant-loop-attempt
invariant-loop-attempt l = l.done ≡ load_done l.n (take l.attempt-index l.launched)
