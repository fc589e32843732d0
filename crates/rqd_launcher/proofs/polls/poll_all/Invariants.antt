-- The attempts so far were polled, and those from the place on are left.
use Rattle.std.proofs.Common.{List, drop, length, map}
use Rattle.rqd_core.specs.Life.{attempts_of}
use Rattle.rqd_launcher.specs.declared.call.SpawnCall.{SpawnCall}
use Rattle.cue_io.specs.Growth.{Grows}
use Rattle.rqd_launcher.specs.Carries.{poll_of, polls_of}
use Rattle.rqd_launcher.proofs.Carrying.{IsBegun}
use Rattle.rqd_launcher.proofs.polls.poll_all.Given as goal

abbrev pub invariant-attempts : goal.invariant-attempts
invariant-attempts g l = (told : List SpawnCall) × record {
  begun : IsBegun (polls_of l.fn.rqd) (map poll_of (attempts_of (drop l.place l.rqd.running))) told l.fn.rqd l.rqd (g.P.Spawner.faults l.fn.spawner) (g.P.Spawner.faults l.spawner);
  grows : Grows (g.P.Spawner.calls l.fn.spawner) (g.P.Spawner.calls l.spawner) told;
}

abbrev pub decreases-attempts : goal.decreases-attempts
decreases-attempts g l = length (drop l.place l.rqd.running)
