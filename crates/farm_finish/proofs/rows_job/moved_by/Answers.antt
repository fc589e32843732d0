use Rattle.std.proofs.Common.{◌∙◌, ◌∷◌, [], sym, subst}
use Rattle.farm_finish.specs.Versions.{CanMove, done_in, moved_done}
use Rattle.farm_finish.specs.declared.rows_job.Done.{Done}
use Rattle.farm_finish.proofs.rows_job.moved_by.Goals as goal

pub moved-requires : goal.moved-requires
moved-requires c =
    subst (λ (old : Done). CanMove c.args.done old c.done_of-new.result) (sym c.done_of-old.ensures)
    (subst (λ (new : Done). CanMove c.args.done (done_in c.args.job (c.args.change.now.was ∷ [])) new) (sym c.done_of-new.ensures) c.requires)

pub returns : goal.returns
returns c = c.moved.ensures ∙ λ i. moved_done c.args.done (c.done_of-old.ensures i) (c.done_of-new.ensures i)
