-- Invalid arguments, memory that ran out, and a form that is opened.
use Rattle.std.proofs.Common.{[], refl, sym, ap, ◌∙◌}
use Rattle.std.specs.Prelude.{option_map}
use Rattle.cue_io.specs.Readings.{Tells-none}
use Rattle.session.specs.Words.{form_of, word_form}
use Rattle.session.proofs.RunLemmas.{called_for_memory, called_for_usage, idle, no_form}
use Rattle.session.proofs.SeatLemmas.{new_unplaced}
use Rattle.session.proofs.run.run_cuebot.Goals as goal

pub returns-in_default-clause-call : goal.returns-in_default-clause-call
returns-in_default-clause-call g c = (
  idle [],
  called_for_usage c.args.words.now (g.S.Source.left c.args.source.now) (g.S.Source.faults c.args.source.now) (g.W.Sink.written c.args.sink.now) (g.W.Sink.faults c.args.sink.now)
      (g.C.Clock.readings c.args.clock.now) (g.K.Keeper.faults c.args.keeper) _ _ _ _ _ _ _ refl
      (no_form c.form.result (form_of c.args.words.now) c.form.ensures.value c.in_default.not-Some) (Tells-none (g.C.Clock.readings c.args.clock.now)),
)

pub returns-in_default-make-clause-call : goal.returns-in_default-make-clause-call
returns-in_default-make-clause-call g c = (
  idle [],
  called_for_memory c.args.words.now (g.S.Source.left c.args.source.now) (g.S.Source.faults c.args.source.now) (g.W.Sink.written c.args.sink.now) (g.W.Sink.faults c.args.sink.now)
      (g.C.Clock.readings c.args.clock.now) (g.K.Keeper.faults c.args.keeper) _ _ _ _ _ _ _ refl
      (Tells-none (g.C.Clock.readings c.args.clock.now)),
)

pub returns-in_default-make-2-clause-call : goal.returns-in_default-make-2-clause-call
returns-in_default-make-2-clause-call g c = (
  idle [],
  called_for_memory c.args.words.now (g.S.Source.left c.args.source.now) (g.S.Source.faults c.args.source.now) (g.W.Sink.written c.args.sink.now) (g.W.Sink.faults c.args.sink.now)
      (g.C.Clock.readings c.args.clock.now) (g.K.Keeper.faults c.args.keeper) _ _ _ _ _ _ _ refl
      (Tells-none (g.C.Clock.readings c.args.clock.now)),
)

pub run_form-requires-clause-unplaced : goal.run_form-requires-clause-unplaced
run_form-requires-clause-unplaced g c = new_unplaced _ c.in-Ok-make.ensures.made.1

pub returns-clause-call : goal.returns-clause-call
returns-clause-call g c = c.run_form.ensures.call c.args.words.now (sym c.form.ensures.value ∙ ap (option_map word_form) c.in-Some.is)
