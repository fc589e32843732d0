-- A farm that was opened, and none.
use Rattle.std.proofs.Common.{◌≡◌, ◌∙◌, refl}
use Rattle.serving.specs.Words.{serve_words}
use Rattle.serving.proofs.ServeEnds.{ends_as, opened_back, opened_served, unopened_ends}
use Rattle.serving.proofs.opened.serve_loaded.Goals as goal

pub returns-in-Opened-clause-ends : goal.returns-in-Opened-clause-ends
returns-in-Opened-clause-ends g c = λ given loaded.
    let opens = c.in-Opened.ensures.opens given loaded in
    ends_as c.serve_opened.result.0 (serve_words c.args.form) ⊥ ⊥ _ _ _ _ _ _ (λ none. none)
    (opened_back g.K.Keeper.tells g.K.Keeper.holds g.K.Keeper.left g.K.Keeper.faults c.args.form.store.now c.args.moment given c.in-Opened.recorder
    c.serve_opened.result.1 (c.serve_opened.new.listener ≡ c.args.listener.now) opens c.recorded.ensures)
    (opened_served g.K.Keeper.tells g.K.Keeper.holds g.K.Keeper.left g.K.Keeper.faults c.args.form.store.now c.args.moment given c.in-Opened.recorder
    c.serve_opened.result.1 (c.serve_opened.new.listener ≡ c.args.listener.now) opens c.recorded.ensures g.N.Opened.opening
    (c.in-Opened.ensures.begun.opening ∙ c.requires.opening))
    c.serve_opened.ensures.ends

pub returns-in-Failed-clause-ends : goal.returns-in-Failed-clause-ends
returns-in-Failed-clause-ends g c = λ given loaded.
    unopened_ends c.in-Failed.fault c.status.result c.status.ensures (serve_words c.args.form) ⊥ _ _ _ _ (record {
      moment = c.args.moment;
      read = refl;
      listener_still = refl;
      opens = c.in-Failed.ensures.opens given loaded;
    })
