use Rattle.std.proofs.Common.{◌≡◌, ℕ, length}
use Rattle.std.specs.Prelude.{◌==◌}
use Rattle.attempt_book.specs.Book.{first_on}
use Rattle.farm_books.specs.Install.{procs_of}
use Rattle.farm_draft.specs.Drafted.{with_slots}
use Rattle.farm_draft.specs.Lost.{lost_where}
use Rattle.farm_draft.proofs.FirstAttempts.{left_from}
use Rattle.farm_draft.proofs.Passed.{passed}
use Rattle.farm_draft.proofs.draft.Draft.lose.Given as goal

-- the attempts below a slot are lost, and the next one is the first from that slot on
abbrev pub invariant-loop-next : goal.invariant-loop-next
invariant-loop-next l =
    (from : ℕ) × (l.next ≡ first_on (procs_of l.fn.self.base.slots) l.host from) × (l.self ≡ with_slots l.fn.self (passed (lost_where (λ n. n == l.host)) from l.fn.self.farm.slots))

abbrev pub decreases-loop-next : goal.decreases-loop-next
decreases-loop-next l = left_from (length (procs_of l.fn.self.base.slots)) l.next
