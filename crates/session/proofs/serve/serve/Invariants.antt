-- The exchanges so far were served, and each one more leaves the reader with less to give: so they are few.
use Rattle.std.proofs.Common.{◌≤◌, ◌+◌, length}
use Rattle.cue_io.specs.Reader.{lines_left}
use Rattle.cue_io.specs.declared.limits.TheConstants.{BYTE_LIMIT}
use Rattle.line_exchanges.specs.Calls.{HasMoved, streams}
use Rattle.session.specs.Sessions.{Call, HasServed, RecordsOver}
use Rattle.session.proofs.serve.serve.Given as goal

abbrev pub invariant-exchanges : goal.invariant-exchanges
invariant-exchanges g l = (call : Call) × record {
  moved : HasMoved
      (streams (g.S.Source.left l.fn.source) (g.S.Source.faults l.fn.source) (g.W.Sink.written l.fn.sink) (g.W.Sink.faults l.fn.sink) (g.C.Clock.readings l.fn.clock)
      (g.K.Keeper.faults l.fn.recorder.keeper))
      (streams (g.S.Source.left l.source) (g.S.Source.faults l.source) (g.W.Sink.written l.sink) (g.W.Sink.faults l.sink) (g.C.Clock.readings l.clock)
      (g.K.Keeper.faults l.recorder.keeper))
      call;
  served : HasServed l.fn.recorder.farm call l.recorder.farm l.reader (g.S.Source.left l.source)
      (RecordsOver g.K.Keeper.commits g.K.Keeper.tells g.K.Keeper.holds g.K.Keeper.left g.K.Keeper.faults l.fn.recorder l.recorder.keeper l.recorder.view);
  few : length call.exchanges + lines_left l.reader ≤ BYTE_LIMIT + 1;
  source : g.S.Source.faults l.fn.source ≤ g.S.Source.faults l.source;
  sink : g.W.Sink.faults l.fn.sink ≤ g.W.Sink.faults l.sink;
}

abbrev pub decreases-exchanges : goal.decreases-exchanges
decreases-exchanges g l = lines_left l.reader
