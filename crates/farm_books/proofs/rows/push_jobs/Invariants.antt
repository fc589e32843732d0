use Rattle.std.proofs.Common.{◌≡◌, ◌++◌, map}
use Rattle.std.specs.Vec.Iter.{into_iter_items}
use Rattle.farm_rows.specs.declared.farm_row.FarmRow.TheVariants as row
use Rattle.farm_books.proofs.rows.push_jobs.Given as goal

-- the rows so far and those of what is left are all
abbrev pub invariant-loop-job : goal.invariant-loop-job
invariant-loop-job l = l.rows.items ++ map row.Job (into_iter_items l.job-iterator) ≡ l.fn.rows.items ++ map row.Job l.fn.jobs.items
