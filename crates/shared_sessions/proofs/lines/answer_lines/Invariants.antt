-- The lines so far were served, the pass holds nothing, and the reader has fewer lines left to give after each one.
use Rattle.std.proofs.Common.{◌≤◌}
use mathlib.Core.List.{IsPrefix}
use Rattle.cue_io.specs.Reader.{lines_left}
use Rattle.line_exchanges.specs.Calls.{HasMoved, streams}
use Rattle.shared_lines.specs.shared_rounds.specs.shared_bot.specs.Passes.{IsFree}
use Rattle.shared_sessions.specs.Sessions.{ServedCall}
use Rattle.shared_sessions.proofs.ServedLines.{IsServing}
use Rattle.shared_sessions.proofs.lines.answer_lines.Given as goal

abbrev pub invariant-exchanges : goal.invariant-exchanges
invariant-exchanges g l = (call : ServedCall) × record {
  moved : HasMoved
      (streams (g.S.Source.left l.fn.source) (g.S.Source.faults l.fn.source) (g.W.Sink.written l.fn.sink) (g.W.Sink.faults l.fn.sink) (g.C.Clock.readings l.fn.clock)
      l.fn.pass.faults)
      (streams (g.S.Source.left l.source) (g.S.Source.faults l.source) (g.W.Sink.written l.sink) (g.W.Sink.faults l.sink) (g.C.Clock.readings l.clock) l.pass.faults)
      call;
  served : IsServing l.fn.pass call l.pass l.reader (g.S.Source.left l.source);
  free : IsFree g.N.Opened.opening l.pass.view;
  grows : IsPrefix l.fn.pass.view.journal l.pass.view.journal;
  source : g.S.Source.faults l.fn.source ≤ g.S.Source.faults l.source;
  sink : g.W.Sink.faults l.fn.sink ≤ g.W.Sink.faults l.sink;
}

abbrev pub decreases-exchanges : goal.decreases-exchanges
decreases-exchanges g l = lines_left l.reader
