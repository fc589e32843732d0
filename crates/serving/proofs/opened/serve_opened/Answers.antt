-- The workers served.
use Rattle.serving.specs.Words.{serve_words}
use Rattle.serving.proofs.ServeEnds.{serving_ends}
use Rattle.serving.proofs.opened.serve_opened.Goals as goal

pub returns-in-Ok-clause-ends : goal.returns-in-Ok-clause-ends
returns-in-Ok-clause-ends g c =
    serving_ends c.serve_workers-status.result (serve_words c.args.form) ⊥ _ _ _ _ c.keeper_of.ensures.served c.serve_workers-status.ensures.ends
