-- The changes so far and those of the layers that are left are those of all layers.
use Rattle.std.proofs.Common.{◌≡◌, ◌++◌, drop, take}
use Rattle.farm_types.specs.Jobs.{frames_in, frames_of}
use Rattle.farm_changes.specs.RowChanges.{rows_put}
use Rattle.farm_changes.proofs.row_job.put_frames.Given as goal

abbrev pub invariant-loop-place : goal.invariant-loop-place
invariant-loop-place l =
    record {
      rows : l.into.items ++ rows_put l.slots (drop l.done l.places) (frames_of l.job l.place (drop l.place l.layers)) ≡ l.fn.into.items ++ rows_put l.slots l.places (frames_of l.job 0 l.layers);
      so_far : l.done ≡ frames_in (take l.place l.layers);
    }
