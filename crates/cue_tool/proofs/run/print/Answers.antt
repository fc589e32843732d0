-- A front of the text was printed.
use Rattle.std.proofs.Common.{take, inr, refl}
use Rattle.cue_tool.proofs.CallLemmas.{cut_part}
use Rattle.cue_tool.proofs.run.print.Goals as goal

pub returns-in-Err-clause-prints : goal.returns-in-Err-clause-prints
returns-in-Err-clause-prints g c =
    let part = c.in-Err.ensures.err in
    (take part.count c.args.text.now, part.adds, inr (refl, cut_part c.args.text.now part.count part.cut))
