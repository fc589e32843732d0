-- The rounds so far were made.
use Rattle.std.proofs.Common.{◌≡◌, ◌≤◌, length}
use Rattle.rqd_session.specs.Runs.{Call, HasMoved, surroundings}
use Rattle.rqd_session.proofs.CallLemmas.{HasMade}
use Rattle.rqd_session.proofs.run.run_rounds.Given as goal

abbrev pub invariant-loop-round : goal.invariant-loop-round
invariant-loop-round g l = (call : Call) × record {
  moved : HasMoved
      (surroundings (g.S.Source.left l.fn.source) (g.S.Source.faults l.fn.source) (g.W.Sink.written l.fn.sink) (g.W.Sink.faults l.fn.sink) (g.P.Spawner.calls l.fn.spawner)
      (g.P.Spawner.faults l.fn.spawner))
      (surroundings (g.S.Source.left l.source) (g.S.Source.faults l.source) (g.W.Sink.written l.sink) (g.W.Sink.faults l.sink) (g.P.Spawner.calls l.spawner)
      (g.P.Spawner.faults l.spawner))
      call;
  made : HasMade l.fn.rqd l.rqd call l.reader (g.S.Source.left l.source);
  count : length call.rounds ≡ l._round;
  source : g.S.Source.faults l.fn.source ≤ g.S.Source.faults l.source;
  sink : g.W.Sink.faults l.fn.sink ≤ g.W.Sink.faults l.sink;
}
