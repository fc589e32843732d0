use Rattle.std.proofs.Common.{subst, sym}
use Rattle.sub_ledger.specs.Ledger.{Ledger}
use Rattle.attempt_book.specs.Inside.{KeepsKnown, KeepsSums, lists_of}
use Rattle.attempt_book.proofs.KnownAttempts.{set_known}
use Rattle.attempt_book.proofs.attempts.Attempts.set_sub.Goals as goal

pub invariant_of-self : goal.invariant_of-self
invariant_of-self c =
    let a = c.self.inside in
    let kept = c.self.invariant in
    record {
      known = subst (λ (s : Ledger). KeepsKnown (record { subs = s.subs; procs = a.procs.items })) (sym c.set.ensures) (set_known (lists_of a) kept.known (record { sub = c.args.sub; size = c.args.size; burst = c.args.burst }) c.requires);
      sums = subst (λ (s : Ledger). KeepsSums a.procs.items s.booked a.cores.items a.memory.items) (sym c.set.ensures) kept.sums;
      ways = kept.ways;
      capacity = kept.capacity;
    }
