use Rattle.std.proofs.Common.{◌≡◌, ◌++◌, drop, map}
use Rattle.farm_types.specs.declared.rows.JobRow.{JobRow}
use Rattle.job_entries.specs.Entries.{held, row_of}
use Rattle.job_entries.proofs.rows.numbers_of.Given as goal

-- the numbers so far and those of the places that are left are all
abbrev pub invariant-loop-place : goal.invariant-loop-place
invariant-loop-place l =
    l.numbers.items ++ map (λ (j : JobRow). j.job) (map row_of (held (drop l.place-index l.places))) ≡ map (λ (j : JobRow). j.job) (map row_of (held l.places))
