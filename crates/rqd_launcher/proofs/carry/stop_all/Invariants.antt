-- The stops so far were carried out.
use Rattle.std.proofs.Common.{List, drop}
use Rattle.rqd_core.specs.Life.{Life}
use Rattle.rqd_launcher.specs.declared.call.SpawnCall.{SpawnCall}
use Rattle.cue_io.specs.Growth.{Grows}
use Rattle.rqd_launcher.specs.Carries.{stops_of}
use Rattle.rqd_launcher.proofs.Carrying.{IsBegun}
use Rattle.rqd_launcher.proofs.carry.stop_all.Given as goal

abbrev pub invariant-loop-attempt : goal.invariant-loop-attempt
invariant-loop-attempt g l = (told : List SpawnCall) × record {
  begun : (life : Life) → IsBegun (stops_of l.stops) (stops_of (drop l.attempt-index l.stops)) told life life (g.P.Spawner.faults l.fn.spawner) (g.P.Spawner.faults l.spawner);
  grows : Grows (g.P.Spawner.calls l.fn.spawner) (g.P.Spawner.calls l.spawner) told;
}
