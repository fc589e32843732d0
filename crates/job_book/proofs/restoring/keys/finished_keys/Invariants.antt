use Rattle.std.proofs.Common.{◌≡◌, ◌++◌, drop, filter, map}
use Rattle.farm_types.specs.Finish.{is_finished}
use Rattle.job_book.specs.Finished.{finish_key}
use Rattle.job_book.proofs.restoring.keys.finished_keys.Given as goal

abbrev pub invariant-loop-row : goal.invariant-loop-row
invariant-loop-row l = l.keys.items ++ map finish_key (filter is_finished (drop l.row-index l.rows)) ≡ map finish_key (filter is_finished l.rows)
