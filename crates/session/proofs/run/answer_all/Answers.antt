-- The farm keeps what every farm keeps, so that the session's entries are safe; and what the recorder's keeper holds is given back.
use Rattle.std.proofs.Common.{ℕ, List, sym, subst}
use Rattle.farm_lines.specs.Transcript.{Exchange}
use Rattle.farm_types.specs.Farm.{Farm}
use Rattle.farm_types.specs.Kept.{IsKeptFarm}
use Rattle.session.specs.Opening.{HoldsFarm}
use Rattle.booking_rule.specs.declared.view.View.{View}
use Rattle.line_exchanges.specs.Calls.{Streams, streams}
use Rattle.session.specs.Sessions.{AnswersAll, RecordsOver}
use Rattle.session.proofs.KeeperLemmas.{over_told}
use Rattle.session.proofs.RunLemmas.{answers_all}
use Rattle.session.proofs.run.answer_all.Goals as goal

pub returns-clause-answered : goal.returns-clause-answered
returns-clause-answered g c =
    let session = c.serve-ended.ensures.ends in
    let first : Farm = c.args.recorder.farm in
    let given = c.args.recorder.keeper in
    let left = c.serve-ended.new.recorder.keeper in
    let before : Streams = streams (g.S.Source.left c.args.source.now) (g.S.Source.faults c.args.source.now) (g.W.Sink.written c.args.sink.now) (g.W.Sink.faults c.args.sink.now)
    (g.C.Clock.readings c.args.clock.now) (g.K.Keeper.faults given) in
    let after : ℕ → Streams = λ faults. streams (g.S.Source.left c.serve-ended.new.source) (g.S.Source.faults c.serve-ended.new.source) (g.W.Sink.written c.serve-ended.new.sink)
    (g.W.Sink.faults c.serve-ended.new.sink) (g.C.Clock.readings c.serve-ended.new.clock) faults in
    let holds : Farm → Type 0 = HoldsFarm (g.K.Keeper.tells c.close-keeper.result.0) (g.K.Keeper.holds c.close-keeper.result.0) (g.K.Keeper.left c.close-keeper.result.0) in
    let goes_on : g.row.K.Denot → View → List Exchange → Type 0 = λ k v.
    RecordsOver g.K.Keeper.commits g.K.Keeper.tells g.K.Keeper.holds g.K.Keeper.left g.K.Keeper.faults c.args.recorder k v in
    let seen : View = c.serve-ended.new.recorder.view in (
      session.0,
      subst (λ (v : View). AnswersAll c.status.result first before (after (g.K.Keeper.faults c.close-keeper.result.0)) session.0 (goes_on c.close-keeper.result.0 v) holds)
          (sym c.close-keeper.ensures.seat.1)
          (subst (λ (k : g.row.K.Denot). AnswersAll c.status.result first before (after (g.K.Keeper.faults k)) session.0 (goes_on k seen) holds) (sym c.close-keeper.ensures.keeper)
          (answers_all c.status.result c.serve-ended.result first c.serve-ended.new.recorder.farm before (after (g.K.Keeper.faults left)) session.0 (goes_on left seen) holds
          c.status.ensures (subst IsKeptFarm c.read.ensures c.kept.ensures) c.sessions_are_legal.ensures c.legal_runs_are_safe.ensures session.1 session.2
          c.close-keeper.ensures.recorded)),
    )

pub returns-clause-told : goal.returns-clause-told
returns-clause-told g c =
    let session = c.serve-ended.ensures.ends in
    λ tells.
    over_told g.K.Keeper.commits g.K.Keeper.tells g.K.Keeper.holds g.K.Keeper.left g.K.Keeper.faults c.args.recorder.farm session.0.exchanges
    c.args.recorder.keeper c.serve-ended.new.recorder.keeper session.2.keeper.lines (subst g.K.Keeper.tells c.close-keeper.ensures.keeper tells)
