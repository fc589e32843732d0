use Rattle.std.proofs.Common.{◌≡◌, ℕ, ◌+◌, drop, length}
use Rattle.attempt_book.specs.Book.{first_on}
use Rattle.farm_books.specs.Install.{procs_of}
use Rattle.farm_draft.proofs.FirstAttempts.{left_from}
use Rattle.farm_changes.proofs.OwnAttempts.{count_of}
use Rattle.farm_changes.proofs.prepare_host.count_attempts.Given as goal

-- the attempts below a slot are counted, and the next one is the first from that slot on
abbrev pub invariant-loop-next : goal.invariant-loop-next
invariant-loop-next l =
    (from : ℕ) × (l.next ≡ first_on (procs_of l.fn.books.farm.slots) l.fn.host from) × (l.count + count_of l.fn.host (drop from l.fn.books.farm.slots) ≡ count_of l.fn.host l.fn.books.farm.slots)

abbrev pub decreases-loop-next : goal.decreases-loop-next
decreases-loop-next l = left_from (length (procs_of l.fn.books.farm.slots)) l.next
