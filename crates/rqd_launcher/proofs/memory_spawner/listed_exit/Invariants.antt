use Rattle.std.proofs.Common.{◌≡◌, drop}
use Rattle.rqd_launcher.specs.Memory.{listed_exit}
use Rattle.rqd_launcher.proofs.memory_spawner.listed_exit.Given as goal

-- what is left tells what all tell
abbrev pub invariant-loop-other : goal.invariant-loop-other
invariant-loop-other l = listed_exit l.attempt (drop l.other-index l.exits) ≡ listed_exit l.attempt l.exits
