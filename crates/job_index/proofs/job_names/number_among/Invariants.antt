use Rattle.std.proofs.Common.{◌≡◌, drop}
use Rattle.job_index.specs.Names.{number_of}
use Rattle.job_index.proofs.job_names.number_among.Given as goal

abbrev pub invariant-loop-named : goal.invariant-loop-named
invariant-loop-named l = number_of l.name (drop l.named-index l.late) ≡ number_of l.name l.late
