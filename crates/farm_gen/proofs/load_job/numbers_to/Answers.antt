use Rattle.std.proofs.Common.{◌+◌, ◌-◌, ◌++◌, ap, ◌∙◌}
use Rattle.farm_gen.specs.Load.{numbers_from}
use Rattle.farm_gen.proofs.Numbers.{number_more}
use Rattle.farm_gen.proofs.load_job.numbers_to.Goals as goal

-- src/load_job.rt:61:5
pub loop-number-preserved : goal.loop-number-preserved
loop-number-preserved c =
    ap (λ xs. xs ++ numbers_from (c.loop-number.number + 1) ((c.args.n + 1) - (c.loop-number.number + 1))) c.in_ok-push.ensures.ok
    ∙ number_more c.loop-number.numbers c.loop-number.number c.args.n c.loop-number-test.true c.requires.within
    ∙ c.loop-number.invariant
