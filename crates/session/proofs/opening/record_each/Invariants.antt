-- The entries that are left go on from the farm at hand, the keeper has only gone on from the one at entry, and the journal has those before.
use Rattle.std.proofs.Common.{false, drop, take}
use Rattle.farm_load.specs.booking_recorder.specs.Going.{Journals}
use Rattle.farm_keeper.specs.Keeping.{Continues}
use Rattle.session.proofs.OpenedRun.{IsUnderWay}
use Rattle.session.proofs.opening.record_each.Given as goal

abbrev pub invariant-loop-entry : goal.invariant-loop-entry
invariant-loop-entry g l = record {
  way : IsUnderWay l.fn.recorder.farm l.entries l.recorder.farm (drop l.entry-index l.entries);
  keeper : Continues g.K.Keeper.tells g.K.Keeper.faults l.fn.recorder.keeper l.recorder.keeper false;
  journals : Journals l.fn.recorder.view l.recorder.view (take l.entry-index l.entries);
}
