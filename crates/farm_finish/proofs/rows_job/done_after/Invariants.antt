use Rattle.std.proofs.Common.{◌≡◌, take}
use Rattle.farm_draft.specs.Rows.{put_slots}
use Rattle.farm_finish.specs.Versions.{done_in}
use Rattle.farm_finish.proofs.rows_job.done_after.Given as goal

-- as far as the rows are put in
abbrev pub invariant-loop-change : goal.invariant-loop-change
invariant-loop-change l = l.done ≡ done_in l.job (put_slots l.book.slots (take l.change-index l.rows))
