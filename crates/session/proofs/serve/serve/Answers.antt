-- Before the first exchange, after one more, and at the last.
use Rattle.std.proofs.Common.{◌≡◌, [], ◌++◌, ◌<◌, ◌≤◌, ◌+◌, ◌^◌, ◌∙◌, refl, sym, subst, arith}
use Rattle.std.proofs.lemmas.List.Elements.{All-nil}
use Rattle.fault_counts.proofs.CountLaws.{HasRisen-earlier}
use Rattle.cue_io.specs.History.{HasGiven, HasGiven-new}
use Rattle.cue_io.specs.Input.{Takes-none}
use Rattle.cue_io.specs.Output.{Adds-none}
use Rattle.cue_io.specs.Reader.{Held, lines_left}
use Rattle.cue_io.specs.declared.limits.TheConstants.{BYTE_LIMIT}
use Rattle.cue_io.specs.Readings.{Tells-none}
use Rattle.farm_lines.specs.Transcript.{Exchange}
use Rattle.farm_load.specs.booking_recorder.proofs.Journaled.{journals_none}
use Rattle.line_exchanges.specs.Calls.{Streams, streams}
use Rattle.session.specs.Sessions.{Call, RecordsOver, WentOn}
use Rattle.session.proofs.ExchangeLemmas.{line_taken}
use Rattle.session.proofs.KeeperLemmas.{records_more, records_still}
use Rattle.session.proofs.SeatLemmas.{exchange_room}
use Rattle.line_exchanges.proofs.Moves.{moved_more}
use Rattle.session.proofs.SessionLemmas.{served_went, served_ended}
use Rattle.session.proofs.serve.serve.Goals as goal
use Rattle.farm_lines.specs.declared.limits.TheConstants.{LINE_LIMIT}

pub exchanges-init : goal.exchanges-init
exchanges-init g c =
    let left = g.S.Source.left c.args.source.now in (
      record { taken = []; written = []; readings = []; exchanges = [] },
      record {
        moved = record {
          taken = Takes-none left;
          written = Adds-none (g.W.Sink.written c.args.sink.now);
          readings = Tells-none (g.C.Clock.readings c.args.clock.now);
        };
        served = record {
          answered = record { farm_is = refl; replies = refl; moments = refl; within = All-nil (λ (t : Exchange). t.moment < 2 ^ 64); marked = tt; keeper = record { lines = refl; journals = journals_none c.args.recorder.now.view } };
          given = subst (λ (reader : Held). HasGiven LINE_LIMIT [] [] reader left) (sym c.requires.reader) (HasGiven-new LINE_LIMIT left);
        };
        few = subst (λ (reader : Held). 0 + lines_left reader ≤ BYTE_LIMIT + 1) (sym c.requires.reader) (omega arith);
        source = omega arith;
        sink = omega arith;
      },
    )

pub exchange-requires-clause-alone : goal.exchange-requires-clause-alone
exchange-requires-clause-alone g c = c.exchanges.invariant.1.served.answered.keeper.journals.split ∙ c.requires.alone

pub exchange-requires-clause-room : goal.exchange-requires-clause-room
exchange-requires-clause-room g c =
    let now = c.exchanges.invariant.1 in
    exchange_room c.args.recorder.now.view c.exchanges.recorder.view c.args.recorder.now.farm c.exchanges.invariant.0.exchanges c.exchanges.reader c.requires.room
    now.served.answered.keeper.journals now.few

pub exchanges-preserved : goal.exchanges-preserved
exchanges-preserved g c =
    let call : Call = c.exchanges.invariant.0 in
    let now = c.exchanges.invariant.1 in
    let step = c.in-Went.ensures.step in
    let before : Streams = streams (g.S.Source.left c.args.source.now) (g.S.Source.faults c.args.source.now) (g.W.Sink.written c.args.sink.now) (g.W.Sink.faults c.args.sink.now)
    (g.C.Clock.readings c.args.clock.now) (g.K.Keeper.faults c.args.recorder.now.keeper) in
    let mid : Streams = streams (g.S.Source.left c.exchanges.source) (g.S.Source.faults c.exchanges.source) (g.W.Sink.written c.exchanges.sink) (g.W.Sink.faults c.exchanges.sink)
    (g.C.Clock.readings c.exchanges.clock) (g.K.Keeper.faults c.exchanges.recorder.keeper) in
    let after : Streams = streams (g.S.Source.left c.exchange.new.source) (g.S.Source.faults c.exchange.new.source) (g.W.Sink.written c.exchange.new.sink)
    (g.W.Sink.faults c.exchange.new.sink) (g.C.Clock.readings c.exchange.new.clock) (g.K.Keeper.faults c.exchange.new.recorder.keeper) in
    let commits = g.K.Keeper.commits in
    let tells = g.K.Keeper.tells in
    let holds = g.K.Keeper.holds in
    let left = g.K.Keeper.left in
    let faults = g.K.Keeper.faults in
    let r = c.args.recorder.now in
    let r_mid = c.exchanges.recorder in
    let r_now = c.exchange.new.recorder in
    let fewer = line_taken c.exchanges.reader c.exchange.new.reader (g.S.Source.left c.exchange.new.source) r_mid.farm r_now.farm step.0 step.1 step.2
    (WentOn commits tells holds left faults r_mid r_now) (r_now.keeper ≡ r_mid.keeper) (r_now ≡ r_mid) step.6 in
    let more = served_went c.args.recorder.now.farm call c.exchanges.recorder.farm c.exchange.new.recorder.farm c.exchanges.reader c.exchange.new.reader
    (g.S.Source.left c.exchanges.source) (g.S.Source.left c.exchange.new.source) step.0 step.1 step.2 (WentOn commits tells holds left faults r_mid r_now)
    (r_now.keeper ≡ r_mid.keeper) (r_now ≡ r_mid)
    (RecordsOver commits tells holds left faults r r_mid.keeper r_mid.view) (RecordsOver commits tells holds left faults r r_now.keeper r_now.view)
    (records_more commits tells holds left faults r r_mid r_now) (records_still commits tells holds left faults r r_mid r_now) now.served step.3 step.6 in (
      record { taken = call.taken ++ step.0; written = call.written ++ step.1; readings = call.readings ++ step.2; exchanges = more.0 },
      record {
        moved = moved_more before mid after call step.0 step.1 step.2 more.0 now.moved step.3 step.4 step.5;
        served = more.1;
        few = omega (arith, now.few, more.2, fewer);
        source = omega (arith, now.source, c.exchange.ensures.source);
        sink = omega (arith, now.sink, c.exchange.ensures.sink);
      },
    )

pub returns-in_default : goal.returns-in_default
returns-in_default g c =
    let call : Call = c.exchanges.invariant.0 in
    let now = c.exchanges.invariant.1 in
    let step = c.exchange.ensures.step in
    let before : Streams = streams (g.S.Source.left c.args.source.now) (g.S.Source.faults c.args.source.now) (g.W.Sink.written c.args.sink.now) (g.W.Sink.faults c.args.sink.now)
    (g.C.Clock.readings c.args.clock.now) (g.K.Keeper.faults c.args.recorder.now.keeper) in
    let mid : Streams = streams (g.S.Source.left c.exchanges.source) (g.S.Source.faults c.exchanges.source) (g.W.Sink.written c.exchanges.sink) (g.W.Sink.faults c.exchanges.sink)
    (g.C.Clock.readings c.exchanges.clock) (g.K.Keeper.faults c.exchanges.recorder.keeper) in
    let after : Streams = streams (g.S.Source.left c.exchange.new.source) (g.S.Source.faults c.exchange.new.source) (g.W.Sink.written c.exchange.new.sink)
    (g.W.Sink.faults c.exchange.new.sink) (g.C.Clock.readings c.exchange.new.clock) (g.K.Keeper.faults c.exchange.new.recorder.keeper) in
    let commits = g.K.Keeper.commits in
    let tells = g.K.Keeper.tells in
    let holds = g.K.Keeper.holds in
    let left = g.K.Keeper.left in
    let faults = g.K.Keeper.faults in
    let r = c.args.recorder.now in
    let r_mid = c.exchanges.recorder in
    let r_now = c.exchange.new.recorder in
    let ended = served_ended c.args.recorder.now.farm call c.exchanges.recorder.farm c.exchange.new.recorder.farm c.exchanges.reader c.exchange.new.reader
    (g.S.Source.left c.exchanges.source) (g.S.Source.left c.exchange.new.source) step.0 step.1 step.2 (WentOn commits tells holds left faults r_mid r_now)
    (r_now.keeper ≡ r_mid.keeper) (r_now ≡ r_mid)
    (RecordsOver commits tells holds left faults r r_mid.keeper r_mid.view) (RecordsOver commits tells holds left faults r r_now.keeper r_now.view)
    (records_more commits tells holds left faults r r_mid r_now) (records_still commits tells holds left faults r r_mid r_now) now.served step.3 c.exchange.result c.in_default.not-Went step.6 in
    record {
      ends = (
        record { taken = call.taken ++ step.0; written = call.written ++ step.1; readings = call.readings ++ step.2; exchanges = ended.0 },
        moved_more before mid after call step.0 step.1 step.2 ended.0 now.moved step.3 step.4 step.5,
        ended.1,
      );
      read = λ is. HasRisen-earlier (g.S.Source.faults c.args.source.now) (g.S.Source.faults c.exchanges.source) (g.S.Source.faults c.exchange.new.source) now.source
          (c.exchange.ensures.read is);
      write = λ is. HasRisen-earlier (g.W.Sink.faults c.args.sink.now) (g.W.Sink.faults c.exchanges.sink) (g.W.Sink.faults c.exchange.new.sink) now.sink
          (c.exchange.ensures.write is);
    }
