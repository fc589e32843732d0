use Rattle.std.proofs.Common.{◌≡◌, drop, map}
use Rattle.job_entries.specs.Restored.{noted_from, unplaced}
use Rattle.job_entries.proofs.restored_index.index_of.Given as goal

abbrev pub invariant-loop-place : goal.invariant-loop-place
invariant-loop-place l = noted_from l.place l.layers (drop l.place l.slots) l.index.items ≡ noted_from 0 l.layers l.slots (map unplaced l.layers)
