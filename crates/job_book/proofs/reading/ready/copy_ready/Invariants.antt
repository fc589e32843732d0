use Rattle.std.proofs.Common.{◌≡◌, take}
use Rattle.job_book.proofs.reading.ready.copy_ready.Given as goal

abbrev pub invariant-loop-jobs : goal.invariant-loop-jobs
invariant-loop-jobs l = l.copies.items ≡ take l.jobs-index l.ready
