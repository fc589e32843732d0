-- The changes so far and those of the frames that are left are those of all frames.
use Rattle.std.proofs.Common.{◌≡◌, ◌++◌, drop}
use Rattle.farm_types.specs.Jobs.{frames_from}
use Rattle.farm_changes.specs.RowChanges.{rows_put}
use Rattle.farm_changes.proofs.row_job.put_layer.Given as goal

abbrev pub invariant-loop-position : goal.invariant-loop-position
invariant-loop-position l =
    l.into.items ++ rows_put l.slots (drop l.position l.places) (frames_from l.job l.layer l.position (drop l.position l.numbers)) ≡ l.fn.into.items ++ rows_put l.slots l.places (frames_from l.job l.layer 0 l.numbers)
