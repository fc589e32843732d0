use Rattle.std.proofs.Common.{◌≡◌, take}
use Rattle.world_law.specs.Happens.{Happen}
use Rattle.world_core.proofs.run.run_each.Given as goal

-- the events so far happened
abbrev pub invariant-loop-event : goal.invariant-loop-event
invariant-loop-event l = record {
  place : l.place ≡ l.event-index;
  happen : Happen l.fn.world (take l.event-index l.events) l.world;
}
