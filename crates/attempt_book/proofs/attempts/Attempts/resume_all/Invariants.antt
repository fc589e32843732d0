use Rattle.std.proofs.Common.{◌≡◌, ◌≤◌, length}
use Rattle.attempt_book.specs.Restore.{procs_in}
use Rattle.attempt_book.proofs.Restored.{from_slot}
use Rattle.attempt_book.proofs.attempts.Attempts.resume_all.Given as goal

-- the slots from the place on have their attempts, and those before it none
abbrev pub invariant-loop-place : goal.invariant-loop-place
invariant-loop-place l = record {
  within : l.place ≤ length l.slots;
  subs : l.self.subs ≡ l.fn.self.subs;
  procs : l.self.procs ≡ from_slot l.place (procs_in l.slots);
}

abbrev pub decreases-loop-place : goal.decreases-loop-place
decreases-loop-place l = l.place
