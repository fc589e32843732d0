-- Memory that ran out, and the lines of a connection.
use Rattle.line_exchanges.specs.Calls.{streams}
use Rattle.shared_sessions.proofs.Served.{free_safe, served_by, served_none}
use Rattle.shared_sessions.proofs.serve.serve_one.Goals as goal

pub returns-in_default-clause-safe : goal.returns-in_default-clause-safe
returns-in_default-clause-safe g c = free_safe g.N.Opened.opening c.args.pass.now.view c.requires.free c.legal_runs_are_safe.ensures

pub returns-in_default-clause-served : goal.returns-in_default-clause-served
returns-in_default-clause-served g c =
    served_none
    (streams (g.S.Source.left c.args.source.now) (g.S.Source.faults c.args.source.now) (g.W.Sink.written c.args.sink.now) (g.W.Sink.faults c.args.sink.now)
    (g.C.Clock.readings c.args.clock.now) c.args.pass.now.faults)
    c.args.pass.now

pub returns-clause-safe : goal.returns-clause-safe
returns-clause-safe g c = free_safe g.N.Opened.opening c.answer_lines-ended.new.pass.view c.answer_lines-ended.ensures.free c.legal_runs_are_safe.ensures

pub returns-clause-served : goal.returns-clause-served
returns-clause-served g c =
    let lines = c.answer_lines-ended.ensures in (
      lines.ends.0,
      served_by c.ended_by.result c.answer_lines-ended.result
          (streams (g.S.Source.left c.args.source.now) (g.S.Source.faults c.args.source.now) (g.W.Sink.written c.args.sink.now) (g.W.Sink.faults c.args.sink.now)
          (g.C.Clock.readings c.args.clock.now) c.args.pass.now.faults)
          (streams (g.S.Source.left c.answer_lines-ended.new.source) (g.S.Source.faults c.answer_lines-ended.new.source) (g.W.Sink.written c.answer_lines-ended.new.sink)
          (g.W.Sink.faults c.answer_lines-ended.new.sink) (g.C.Clock.readings c.answer_lines-ended.new.clock) c.answer_lines-ended.new.pass.faults)
          c.args.pass.now lines.ends.0 c.answer_lines-ended.new.pass c.ended_by.ensures lines.ends.1 lines.ends.2 lines.read lines.write,
    )
