use Rattle.std.proofs.Common.{◌≡◌, length}
use Rattle.world_cases.proofs.stage.names_of.Given as goal

abbrev pub invariant-loop-host : goal.invariant-loop-host
invariant-loop-host l = length l.names ≡ l.host-index
