use Rattle.std.proofs.Common.{◌≡◌, ◌+◌, ◌-◌, ◌++◌}
use Rattle.farm_gen.specs.Load.{numbers_from}
use Rattle.farm_gen.proofs.load_job.numbers_to.Given as goal

abbrev pub invariant-loop-number : goal.invariant-loop-number
invariant-loop-number l = l.numbers ++ numbers_from l.number ((l.n + 1) - l.number) ≡ numbers_from 1 l.n
