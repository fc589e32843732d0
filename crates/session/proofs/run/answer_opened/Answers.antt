use Rattle.std.proofs.Common.{List, [], sym, subst}
use Rattle.farm_lines.specs.Transcript.{Exchange}
use Rattle.farm_types.specs.Farm.{Farm}
use Rattle.session.specs.declared.words.Form.{Form}
use Rattle.session.specs.Opening.{HoldsFarm}
use Rattle.farm_types.specs.declared.entry.Entry.{Entry}
use Rattle.farm_load.specs.booking_recorder.specs.Going.{Journals}
use Rattle.booking_table.specs.Seats.{view}
use Rattle.line_exchanges.specs.Calls.{Streams, streams}
use Rattle.session.specs.Sessions.{AnswersForm, RecordsOver}
use Rattle.session.specs.Words.{word_form}
use Rattle.session.proofs.RunLemmas.{load_called, told_call}
use Rattle.session.proofs.run.answer_opened.Goals as goal

pub returns-in-Load-clause-answered : goal.returns-in-Load-clause-answered
returns-in-Load-clause-answered g c =
    let load = c.answer_load.ensures.answered in
    let left = g.S.Source.left c.args.source.now in
    let read_faults = g.S.Source.faults c.args.source.now in
    let written = g.W.Sink.written c.args.sink.now in
    let written_now = g.W.Sink.written c.answer_load.new.sink in
    let write_faults = g.W.Sink.faults c.args.sink.now in
    let write_faults_now = g.W.Sink.faults c.answer_load.new.sink in
    let readings = g.C.Clock.readings c.args.clock.now in
    let faults = g.K.Keeper.faults c.args.recorder.keeper in
    let faults_now = g.K.Keeper.faults c.answer_load.result.1 in
    let holds : Farm → Type 0
    = HoldsFarm (g.K.Keeper.tells c.answer_load.result.1) (g.K.Keeper.holds c.answer_load.result.1) (g.K.Keeper.left c.answer_load.result.1) in
    let goes_on : List Exchange → Type 0 =
    RecordsOver g.K.Keeper.commits g.K.Keeper.tells g.K.Keeper.holds g.K.Keeper.left g.K.Keeper.faults c.args.recorder c.answer_load.result.1 (view c.answer_load.result.2) in
    let journals : List Entry → Type 0 = Journals c.args.recorder.view (view c.answer_load.result.2) in
    let before : Streams = streams left read_faults written write_faults readings faults in
    let after : Streams = streams left read_faults written_now write_faults_now readings faults_now in (
      told_call load.0 [],
      subst (λ (form : Form). AnswersForm (word_form form) c.answer_load.result.0 c.args.recorder.farm before after (told_call load.0 []) goes_on holds journals) (sym c.in-Load.is)
          (load_called c.in-Load.n c.answer_load.result.0 c.args.recorder.farm left read_faults written written_now write_faults write_faults_now readings faults faults_now load.0
          holds journals load.1 load.2),
    )
