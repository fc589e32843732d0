use Rattle.std.proofs.Common.{true, false, arith}
use Rattle.world_answers.proofs.FirstOnes.{counts_none, counts_on, flag_at}
use Rattle.world_answers.proofs.firsts.commits_before.Goals as goal
use Rattle.world_answers.proofs.firsts.commits_before.Goals.{then-is_stored, else-is_stored}

pub loop-is_stored-preserved : goal.loop-is_stored-preserved
loop-is_stored-preserved c =
    let stored = c.args.stored.now in
    let index = c.loop-is_stored.is_stored-index in
    let place = c.loop-is_stored.place in
    let count = c.loop-is_stored.count in
    elim c.if-is_stored.branch [
      | then-is_stored w ↦
          (let more = w.count-is in
          counts_on stored c.args.number index place count true c.loop-is_stored.invariant
          (flag_at stored index true c.loop-is_stored-test.true w.if-is_stored.true)
          c.if-place-number.false c.if-is_stored.count (omega (arith, more)))
      | else-is_stored w ↦
          (let more = w.count-is in
          counts_on stored c.args.number index place count false c.loop-is_stored.invariant
          (flag_at stored index false c.loop-is_stored-test.true w.if-is_stored.false)
          c.if-place-number.false c.if-is_stored.count (omega (arith, more)))
    ]

pub returns : goal.returns
returns c =
    let test = c.loop-is_stored-test.false in
    counts_none c.args.stored.now c.args.number c.loop-is_stored.is_stored-index c.loop-is_stored.place c.loop-is_stored.count c.loop-is_stored.invariant
    (omega (arith, test))
