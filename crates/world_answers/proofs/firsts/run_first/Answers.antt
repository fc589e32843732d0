use Rattle.std.proofs.Common.{arith}
use Rattle.world_answers.proofs.FirstOnes.{walks_first}
use Rattle.world_answers.proofs.firsts.run_first.Goals as goal

pub loop-entry-preserved : goal.loop-entry-preserved
loop-entry-preserved c =
    walks_first c.args.farm.now c.args.entries.now c.args.number c.loop-entry.left c.loop-entry.entry-index c.loop-entry.made c.record.new.farm
    c.entry-item.result
    c.loop-entry-test.true c.entry-item.is (let some = c.if-left-eq0.false in omega (arith, some)) c.in_ok-record.ensures c.loop-entry.invariant
