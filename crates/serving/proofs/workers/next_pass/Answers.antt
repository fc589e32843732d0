use Rattle.serving.proofs.FirstPasses.{split_off}
use Rattle.serving.proofs.workers.next_pass.Goals as goal

pub returns-clause-split : goal.returns-clause-split
returns-clause-split g c = split_off c.args.recorder.now c.open_pass.new.recorder c.rests.ensures.0 c.in-Ok.ensures.4
