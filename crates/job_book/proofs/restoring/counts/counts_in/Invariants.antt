use Rattle.std.proofs.Common.{◌≡◌, take}
use Rattle.job_book.specs.Inside.{counts_for}
use Rattle.job_book.proofs.restoring.counts.counts_in.Given as goal

abbrev pub invariant-loop-slot : goal.invariant-loop-slot
invariant-loop-slot l = l.counts.items ≡ counts_for l.rows (take l.slot-index l.slots)
