use Rattle.std.proofs.Common.{◌≡◌, ◌++◌, drop}
use Rattle.std.specs.Prelude.{flat_map}
use Rattle.job_entries.specs.Entries.{held, layers_held}
use Rattle.job_entries.proofs.rows.layers_of.Given as goal

-- the rows so far and those of the places that are left are all
abbrev pub invariant-loop-place : goal.invariant-loop-place
invariant-loop-place l = l.rows.items ++ flat_map layers_held (held (drop l.place-index l.places)) ≡ flat_map layers_held (held l.places)
