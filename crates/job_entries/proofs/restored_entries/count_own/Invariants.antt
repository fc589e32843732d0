use Rattle.std.proofs.Common.{◌≡◌, ◌+◌, drop}
use Rattle.job_entries.specs.Restored.{own_count}
use Rattle.job_entries.proofs.restored_entries.count_own.Given as goal

abbrev pub invariant-loop-at : goal.invariant-loop-at
invariant-loop-at l = l.at + own_count l.job (drop l.at l.layers.items) ≡ own_count l.job l.layers.items
