use Rattle.std.proofs.Common.{length, take, ◌-◌, ◌≤◌}
use Rattle.cue_io.specs.Output.{Adds}
use Rattle.cue_io.proofs.output.write_all.Given as goal

abbrev pub invariant-pieces : goal.invariant-pieces
invariant-pieces g l = record {
  within : l.at ≤ length l.piece;
  adds : Adds (g.W.Sink.written l.fn.sink) (g.W.Sink.written l.sink) (take l.at l.piece);
  rises : g.W.Sink.faults l.fn.sink ≤ g.W.Sink.faults l.sink;
}

abbrev pub decreases-pieces : goal.decreases-pieces
decreases-pieces g l = length l.piece - l.at
