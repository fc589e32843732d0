use Rattle.std.proofs.Common.{◌≡◌, [], take}
use Rattle.attempt_book.proofs.attempts.Attempts.of_subs.Given as goal

-- the subscriptions so far
abbrev pub invariant-loop-row : goal.invariant-loop-row
invariant-loop-row l = l.book ≡ record { subs = take l.row-index l.subs; procs = [] }
