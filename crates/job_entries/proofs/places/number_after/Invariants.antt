use Rattle.std.proofs.Common.{◌≡◌, drop, ltb}
use Rattle.std.specs.List.{find}
use Rattle.job_entries.specs.Entries.{held}
use Rattle.job_entries.specs.OneJob.{OneJob}
use Rattle.job_entries.proofs.places.number_after.Given as goal

abbrev pub invariant-loop-at : goal.invariant-loop-at
invariant-loop-at l = find (λ (e : OneJob). ltb l.after e.row.job) (held (drop l.at l.places)) ≡ find (λ (e : OneJob). ltb l.after e.row.job) (held l.places)
