use Rattle.farm_draft.specs.Rows.{put_slots}
use Rattle.farm_finish.proofs.TurnLemmas.EachTurn.{MakesFinished}
use Rattle.farm_finish.proofs.rows.each_job.Given as goal

-- as far as the jobs have finished
abbrev pub invariant-loop-place : goal.invariant-loop-place
invariant-loop-place l = MakesFinished l.book (put_slots l.book.slots l.rows) l.depends l.jobs l.place l.changes.items
