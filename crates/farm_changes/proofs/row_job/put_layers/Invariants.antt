-- The changes so far and those of the layers that are left are those of all layers.
use Rattle.std.proofs.Common.{◌≡◌, ◌++◌, drop}
use Rattle.farm_changes.specs.RowChanges.{layers_put}
use Rattle.farm_changes.proofs.row_job.put_layers.Given as goal

abbrev pub invariant-loop-place : goal.invariant-loop-place
invariant-loop-place l = l.into.items ++ layers_put l.job l.limits l.place (drop l.place l.layers) ≡ l.fn.into.items ++ layers_put l.job l.limits 0 l.layers
