use Rattle.std.proofs.Common.{◌≡◌, drop}
use Rattle.recovery.specs.Recovered.{recovered, recovered_from}
use Rattle.recovery.proofs.recovering.recover.Given as goal

abbrev pub invariant-loop-row : goal.invariant-loop-row
invariant-loop-row l = recovered_from l.draft (drop l.row-index l.rows) ≡ recovered l.rows
