-- A farm that was loaded, and none.
use Rattle.std.proofs.Common.{refl}
use Rattle.serving.specs.Words.{serve_words}
use Rattle.serving.proofs.ServeEnds.{ends_as, opened_read, unopened_ends, unopened_read}
use Rattle.serving.proofs.run.serve_store.Goals as goal

pub returns-in-Ok-clause-ends : goal.returns-in-Ok-clause-ends
returns-in-Ok-clause-ends g c =
    ends_as c.serve_loaded.result.0 (serve_words c.args.form) ⊥ ⊥ _ _ _ _ _ _ (λ none. none)
    (unopened_read g.K.Keeper.tells g.K.Keeper.holds g.K.Keeper.left g.K.Keeper.faults c.args.form.store.now c.args.keeper
    c.serve_loaded.result.1 c.now-moment.result _ c.now-moment.ensures _)
    (opened_read g.K.Keeper.tells g.K.Keeper.holds g.K.Keeper.left g.K.Keeper.faults c.args.form.store.now c.args.keeper
    c.serve_loaded.result.1 c.now-moment.result _ c.now-moment.ensures)
    (c.serve_loaded.ensures.ends c.args.keeper c.in-Ok.ensures)

pub returns-in-Err-clause-ends : goal.returns-in-Err-clause-ends
returns-in-Err-clause-ends g c =
    unopened_ends c.in-Err.fault c.status.result c.status.ensures (serve_words c.args.form) ⊥ _ _ _ _ (record {
      moment = c.now-moment.result;
      read = c.now-moment.ensures;
      listener_still = refl;
      opens = c.in-Err.ensures c.args.form.store.now c.now-moment.result;
    })
