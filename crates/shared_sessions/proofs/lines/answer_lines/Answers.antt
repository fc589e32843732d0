-- Before the first line, after one more, and at the last.
use Rattle.std.proofs.Common.{[], ◌++◌, arith}
use Rattle.fault_counts.proofs.CountLaws.{HasRisen-earlier}
use Rattle.cue_io.specs.Input.{Takes-none}
use Rattle.cue_io.specs.Output.{Adds-none}
use Rattle.cue_io.specs.Readings.{Tells-none}
use Rattle.line_exchanges.proofs.Moves.{moved_more}
use Rattle.line_exchanges.specs.Calls.{Streams, streams}
use Rattle.shared_lines.specs.line_answers.specs.booking_recorder.proofs.Rests.{prefix_same, prefix_then}
use Rattle.shared_sessions.specs.Sessions.{ServedCall}
use Rattle.shared_sessions.proofs.ServedLines.{served_ended, serving_none, serving_went}
use Rattle.shared_sessions.proofs.lines.answer_lines.Goals as goal

pub exchanges-init : goal.exchanges-init
exchanges-init g c = (
  record { taken = []; written = []; readings = []; exchanges = [] },
  record {
    moved = record {
      taken = Takes-none (g.S.Source.left c.args.source.now);
      written = Adds-none (g.W.Sink.written c.args.sink.now);
      readings = Tells-none (g.C.Clock.readings c.args.clock.now);
    };
    served = serving_none c.args.pass.now c.args.reader.now (g.S.Source.left c.args.source.now) c.requires.reader;
    free = c.requires.free;
    grows = prefix_same c.args.pass.now.view.journal;
    source = omega arith;
    sink = omega arith;
  },
)

pub exchanges-preserved : goal.exchanges-preserved
exchanges-preserved g c =
    let call : ServedCall = c.exchanges.invariant.0 in
    let now = c.exchanges.invariant.1 in
    let step = c.in-Went.ensures.step in
    let before : Streams = streams (g.S.Source.left c.args.source.now) (g.S.Source.faults c.args.source.now) (g.W.Sink.written c.args.sink.now) (g.W.Sink.faults c.args.sink.now)
    (g.C.Clock.readings c.args.clock.now) c.args.pass.now.faults in
    let mid : Streams = streams (g.S.Source.left c.exchanges.source) (g.S.Source.faults c.exchanges.source) (g.W.Sink.written c.exchanges.sink) (g.W.Sink.faults c.exchanges.sink)
    (g.C.Clock.readings c.exchanges.clock) c.exchanges.pass.faults in
    let after : Streams = streams (g.S.Source.left c.exchange.new.source) (g.S.Source.faults c.exchange.new.source) (g.W.Sink.written c.exchange.new.sink)
    (g.W.Sink.faults c.exchange.new.sink) (g.C.Clock.readings c.exchange.new.clock) c.exchange.new.pass.faults in
    let more = serving_went c.args.pass.now call c.exchanges.pass c.exchange.new.pass c.exchanges.reader c.exchange.new.reader (g.S.Source.left c.exchanges.source)
    (g.S.Source.left c.exchange.new.source) step.0 step.1 step.2 now.served step.3 step.6 in (
      record { taken = call.taken ++ step.0; written = call.written ++ step.1; readings = call.readings ++ step.2; exchanges = more.0 },
      record {
        moved = moved_more before mid after call step.0 step.1 step.2 more.0 now.moved step.3 step.4 step.5;
        served = more.1;
        free = c.exchange.ensures.free;
        grows = prefix_then c.args.pass.now.view.journal c.exchanges.pass.view.journal c.exchange.new.pass.view.journal now.grows c.exchange.ensures.grows;
        source = omega (arith, now.source, c.exchange.ensures.source);
        sink = omega (arith, now.sink, c.exchange.ensures.sink);
      },
    )

pub returns-in_default : goal.returns-in_default
returns-in_default g c =
    let call : ServedCall = c.exchanges.invariant.0 in
    let now = c.exchanges.invariant.1 in
    let step = c.exchange.ensures.step in
    let before : Streams = streams (g.S.Source.left c.args.source.now) (g.S.Source.faults c.args.source.now) (g.W.Sink.written c.args.sink.now) (g.W.Sink.faults c.args.sink.now)
    (g.C.Clock.readings c.args.clock.now) c.args.pass.now.faults in
    let mid : Streams = streams (g.S.Source.left c.exchanges.source) (g.S.Source.faults c.exchanges.source) (g.W.Sink.written c.exchanges.sink) (g.W.Sink.faults c.exchanges.sink)
    (g.C.Clock.readings c.exchanges.clock) c.exchanges.pass.faults in
    let after : Streams = streams (g.S.Source.left c.exchange.new.source) (g.S.Source.faults c.exchange.new.source) (g.W.Sink.written c.exchange.new.sink)
    (g.W.Sink.faults c.exchange.new.sink) (g.C.Clock.readings c.exchange.new.clock) c.exchange.new.pass.faults in
    let ended = served_ended c.args.pass.now call c.exchanges.pass c.exchange.new.pass c.exchanges.reader c.exchange.new.reader (g.S.Source.left c.exchanges.source)
    (g.S.Source.left c.exchange.new.source) step.0 step.1 step.2 now.served step.3 c.exchange.result c.in_default.not-Went step.6 in
    record {
      free = c.exchange.ensures.free;
      grows = prefix_then c.args.pass.now.view.journal c.exchanges.pass.view.journal c.exchange.new.pass.view.journal now.grows c.exchange.ensures.grows;
      ends = (
        record { taken = call.taken ++ step.0; written = call.written ++ step.1; readings = call.readings ++ step.2; exchanges = ended.0 },
        moved_more before mid after call step.0 step.1 step.2 ended.0 now.moved step.3 step.4 step.5,
        ended.1,
      );
      read = λ is. HasRisen-earlier (g.S.Source.faults c.args.source.now) (g.S.Source.faults c.exchanges.source) (g.S.Source.faults c.exchange.new.source) now.source
          (c.exchange.ensures.read is);
      write = λ is. HasRisen-earlier (g.W.Sink.faults c.args.sink.now) (g.W.Sink.faults c.exchanges.sink) (g.W.Sink.faults c.exchange.new.sink) now.sink
          (c.exchange.ensures.write is);
    }
