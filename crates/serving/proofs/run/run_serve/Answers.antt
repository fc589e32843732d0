-- The words are valid.
use Rattle.std.proofs.Common.{sym, ap, ◌∙◌}
use Rattle.std.specs.Prelude.{option_map}
use Rattle.serving.specs.Words.{serve_words}
use Rattle.serving.proofs.ServeEnds.{ends_whole}
use Rattle.serving.proofs.run.run_serve.Goals as goal

pub serve_store-requires-clause-kept : goal.serve_store-requires-clause-kept
serve_store-requires-clause-kept g c = λ κs lives tells.
    c.requires.kept (serve_words c.in-Some.form) (sym c.serve_form.ensures.value ∙ ap (option_map serve_words) c.in-Some.is) tells

pub returns-clause-complete : goal.returns-clause-complete
returns-clause-complete g c = λ asks said faultless.
    ends_whole g.K.Keeper.tells g.K.Keeper.holds g.K.Keeper.left g.K.Keeper.faults (serve_words c.in-Some.form) c.args.keeper c.serve_store.result.1 _ _ _ _ _
    c.serve_store.result.0 _ _ c.serve_store.ensures.ends c.serve_store.ensures.listen faultless
