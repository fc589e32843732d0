-- The starts so far were carried out, and those that are left run.
use Rattle.std.proofs.Common.{List, drop}
use Rattle.rqd_core.specs.Keeping.{AreStarted}
use Rattle.rqd_launcher.specs.declared.call.SpawnCall.{SpawnCall}
use Rattle.cue_io.specs.Growth.{Grows}
use Rattle.rqd_launcher.specs.Carries.{starts_of}
use Rattle.rqd_launcher.proofs.Carrying.{IsBegun}
use Rattle.rqd_launcher.proofs.carry.start_all.Given as goal

abbrev pub invariant-loop-launch : goal.invariant-loop-launch
invariant-loop-launch g l = (told : List SpawnCall) × record {
  begun : IsBegun (starts_of l.starts) (starts_of (drop l.launch-index l.starts)) told l.fn.rqd l.rqd (g.P.Spawner.faults l.fn.spawner) (g.P.Spawner.faults l.spawner);
  run : AreStarted (drop l.launch-index l.starts) l.rqd.running;
  grows : Grows (g.P.Spawner.calls l.fn.spawner) (g.P.Spawner.calls l.spawner) told;
}
