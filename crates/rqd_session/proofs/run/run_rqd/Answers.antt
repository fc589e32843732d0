-- Wrong words, memory that ran out before the first line, and the rounds.
use Rattle.std.proofs.Common.{◌≡◌, sym, ap, ◌∙◌, subst, option_map}
use Rattle.rqd_core.specs.Life.{Life, new_life}
use Rattle.rqd_session.specs.Runs.{AreRun, Surroundings, surroundings}
use Rattle.rqd_session.specs.Words.{asked_of, asked_words}
use Rattle.rqd_session.proofs.EndLemmas.{begun, called, no_asked, no_call, no_usage, ran_out, refused, stops_not_wrong}
use Rattle.rqd_session.proofs.run.run_rqd.Goals as goal

-- ---- wrong words

pub returns-in_default-clause-call : goal.returns-in_default-clause-call
returns-in_default-clause-call g c =
    (no_call, refused c.args.words.now _ (no_asked c.read_words.result (asked_of c.args.words.now) c.read_words.ensures c.in_default.not-Some))

-- ---- no memory

pub returns-in_default-config-clause-call : goal.returns-in_default-config-clause-call
returns-in_default-config-clause-call g c =
    (begun, ran_out c.args.words.now (asked_words c.in-Some.asked) _ (sym c.read_words.ensures ∙ ap (option_map asked_words) c.in-Some.is))

pub returns-in_default-make-clause-call : goal.returns-in_default-make-clause-call
returns-in_default-make-clause-call g c =
    (begun, ran_out c.args.words.now (asked_words c.in-Some.asked) _ (sym c.read_words.ensures ∙ ap (option_map asked_words) c.in-Some.is))

pub returns-in_default-make-2-clause-call : goal.returns-in_default-make-2-clause-call
returns-in_default-make-2-clause-call g c =
    (begun, ran_out c.args.words.now (asked_words c.in-Some.asked) _ (sym c.read_words.ensures ∙ ap (option_map asked_words) c.in-Some.is))

-- ---- the rounds

pub returns-clause-usage : goal.returns-clause-usage
returns-clause-usage g c =
    let run = c.run_rounds.ensures.call in
    no_usage c.args.words.now (asked_words c.in-Some.asked) c.run_rounds.result (sym c.read_words.ensures ∙ ap (option_map asked_words) c.in-Some.is)
    (stops_not_wrong c.in-Ok-make.rqd c.in-Some.asked.rounds c.run_rounds.result run.0 (g.S.Source.left c.run_rounds.new.source) run.0.part run.1.ran.stops)

pub returns-clause-call : goal.returns-clause-call
returns-clause-call g c =
    let before : Surroundings = surroundings (g.S.Source.left c.args.source.now) (g.S.Source.faults c.args.source.now) (g.W.Sink.written c.args.sink.now) (g.W.Sink.faults c.args.sink.now)
    (g.P.Spawner.calls c.args.spawner.now) (g.P.Spawner.faults c.args.spawner.now) in
    let after : Surroundings = surroundings (g.S.Source.left c.run_rounds.new.source) (g.S.Source.faults c.run_rounds.new.source) (g.W.Sink.written c.run_rounds.new.sink)
    (g.W.Sink.faults c.run_rounds.new.sink) (g.P.Spawner.calls c.run_rounds.new.spawner) (g.P.Spawner.faults c.run_rounds.new.spawner) in
    let run = c.run_rounds.ensures.call in
    let life : c.in-Ok-make.rqd ≡ new_life (asked_words c.in-Some.asked).config = c.in-Ok-make.ensures ∙ ap new_life c.in-Ok.ensures in (
      run.0,
      called c.args.words.now (asked_words c.in-Some.asked) c.run_rounds.result before after run.0 (sym c.read_words.ensures ∙ ap (option_map asked_words) c.in-Some.is)
          (subst (λ (l : Life). AreRun l c.in-Some.asked.rounds c.run_rounds.result before after run.0) life run.1)
          c.run_rounds.ensures.read c.run_rounds.ensures.write,
    )
