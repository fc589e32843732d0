use Rattle.std.proofs.Common.{arith}
use Rattle.depend_graph.proofs.TrialLemmas.Following.{tried_past}
use Rattle.depend_graph.proofs.trials.trying.try_done.Goals as goal

pub returns-then-slot-first : goal.returns-then-slot-first
returns-then-slot-first c = λ unmet g undone t. tried_past c.args.depends.now unmet _ _ _ g c.args.slot t (omega (arith, c.requires.first_counted, c.if-slot-first.true))
