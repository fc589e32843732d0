-- No farm, and a session or a load over one.
use Rattle.std.proofs.Common.{[], ◌∷◌, refl}
use Rattle.line_exchanges.specs.Calls.{Streams, streams}
use Rattle.session.specs.Words.{word_form}
use Rattle.session.proofs.OpenedWays.{failed_risen}
use Rattle.session.proofs.RunLemmas.{called_failed, called_opened, opened_call, opened_still, told_call}
use Rattle.session.proofs.SeatLemmas.{begun_room}
use Rattle.session.proofs.run.run_form.Goals as goal

pub answer_opened-status-requires-clause-alone : goal.answer_opened-status-requires-clause-alone
answer_opened-status-requires-clause-alone g c = c.in-Opened.ensures.0.begun.alone

pub answer_opened-status-requires-clause-room : goal.answer_opened-status-requires-clause-room
answer_opened-status-requires-clause-room g c =
    let opened = c.in-Opened.ensures.0 in
    begun_room (word_form c.args.form) c.now-moment.result c.in-Opened.recorder.view opened.first opened.begun

-- ---- a session

pub returns-in-Opened-clause-call : goal.returns-in-Opened-clause-call
returns-in-Opened-clause-call g c = λ words formed.
    let opens = c.in-Opened.ensures in
    let session = c.answer_opened-status.ensures.answered in
    let before : Streams = streams (g.S.Source.left c.args.source.now) (g.S.Source.faults c.args.source.now) (g.W.Sink.written c.args.sink.now) (g.W.Sink.faults c.args.sink.now)
    (g.C.Clock.readings c.args.clock.now) (g.K.Keeper.faults c.args.keeper) in
    let after : Streams = streams (g.S.Source.left c.answer_opened-status.new.source) (g.S.Source.faults c.answer_opened-status.new.source) (g.W.Sink.written c.answer_opened-status.new.sink)
    (g.W.Sink.faults c.answer_opened-status.new.sink)
    (g.C.Clock.readings c.answer_opened-status.new.clock) (g.K.Keeper.faults c.answer_opened-status.result.1) in (
      opened_call c.now-moment.result session.0,
      called_opened g.K.Keeper.commits g.K.Keeper.tells g.K.Keeper.holds g.K.Keeper.left g.K.Keeper.faults c.args.keeper c.in-Opened.recorder
          c.answer_opened-status.result.1 c.answer_opened-status.result.2 words c.answer_opened-status.result.0 c.now-moment.result session.0 before after (g.C.Clock.readings c.now-moment.new.self) _ _ _ _ _ _ opens.1
          c.answer_opened-status.ensures.opened c.answer_opened-status.ensures.rests refl refl (word_form c.args.form) formed
          (opened_still (g.K.Keeper.tells c.in-Opened.recorder.keeper) (g.K.Keeper.tells c.answer_opened-status.result.1) (g.K.Keeper.holds c.args.keeper)
          (word_form c.args.form) c.now-moment.result c.in-Opened.recorder.farm c.in-Opened.recorder.view
          c.answer_opened-status.ensures.told opens.0)
          c.now-moment.ensures session.1 c.answer_opened-status.ensures.read c.answer_opened-status.ensures.write,
    )

-- ---- no farm

pub returns-in-Failed-clause-call : goal.returns-in-Failed-clause-call
returns-in-Failed-clause-call g c = λ words formed.
    let told = c.tell_fault.ensures.told in (
      told_call told.0 (c.now-moment.result ∷ []),
      called_failed words (word_form c.args.form) c.now-moment.result _ _ _ _ _ formed c.in-Failed.fault c.tell_fault.result told.0
          (g.S.Source.left c.args.source.now) (g.S.Source.faults c.args.source.now) (g.W.Sink.written c.args.sink.now) (g.W.Sink.written c.tell_fault.new.sink)
          (g.W.Sink.faults c.args.sink.now)
          (g.W.Sink.faults c.tell_fault.new.sink) (g.C.Clock.readings c.args.clock.now) (g.C.Clock.readings c.now-moment.new.self) (g.K.Keeper.faults c.args.keeper)
          (g.K.Keeper.faults c.in-Failed.keeper) _ _
          c.now-moment.ensures told.1 told.2 c.in-Failed.ensures.0
          (failed_risen g.K.Keeper.tells g.K.Keeper.faults c.args.keeper c.in-Failed.keeper c.in-Failed.fault c.in-Failed.ensures.1),
    )
