use Rattle.std.proofs.Common.{◌∙◌, ap, ◌+◌, arith}
use Rattle.job_entries.specs.declared.counts.Counts.{Counts}
use Rattle.farm_finish.proofs.CountLemmas.LeftFrames.{left_sum}
use Rattle.farm_finish.proofs.counting.left_of.Goals as goal

pub returns : goal.returns
returns c =
    let sum = ap (λ (n : Counts). n.waiting + n.setup + n.running + n.depend + n.dead) c.counts-counts.ensures ∙ left_sum c.args.job c.args.jobs.now.slots in
    omega (arith, sum, c.from.ensures, c.from-2.ensures, c.from-3.ensures, c.from-4.ensures, c.from-5.ensures)
