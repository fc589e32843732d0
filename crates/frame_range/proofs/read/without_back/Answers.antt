use Rattle.std.proofs.Common.{◌∙◌, arith}
use Rattle.frame_range.proofs.ReadLemmas.{back_step, back_done, back_none}
use Rattle.frame_range.proofs.read.without_back.Goals as goal
use Rattle.frame_range.proofs.read.without_back.Goals.{then-loop-end-test+else-text-end-eq32, else-loop-end-test}

pub loop-end-preserved : goal.loop-end-preserved
loop-end-preserved c = record {
  within = omega arith;
  so_far = back_step c.args.text.now c.loop-end.end c.loop-end-test.true c.loop-end.invariant.within c.if-text-end-eq32.true ∙ c.loop-end.invariant.so_far;
}

pub returns : goal.returns
returns c =
    elim c.loop-end-test.branch [
      | then-loop-end-test+else-text-end-eq32 w ↦ back_done c.args.text.now c.loop-end.end w.loop-end-test.true c.loop-end.invariant.within w.if-text-end-eq32.false ∙ c.loop-end.invariant.so_far
      | else-loop-end-test w ↦ back_none c.args.text.now c.loop-end.end w.loop-end-test.false ∙ c.loop-end.invariant.so_far
    ]
