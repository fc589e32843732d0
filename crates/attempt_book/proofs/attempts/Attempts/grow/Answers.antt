use Rattle.std.proofs.Common.{◌+◌, ◌≤◌, List, Option, length, ap, subst, sym, arith}
use Rattle.farm_types.specs.declared.attempt.ProcRow.{ProcRow}
use Rattle.farm_types.specs.declared.limits.TheConstants.{SLOT_LIMIT}
use Rattle.attempt_book.specs.Book.{AttemptLists}
use Rattle.attempt_book.specs.Inside.{KeepsKnown, KeepsSums, KeepsWays, lists_of}
use Rattle.attempt_book.proofs.KeptSums.{grown_sums}
use Rattle.attempt_book.proofs.KeptWays.{grown_ways}
use Rattle.attempt_book.proofs.KnownAttempts.{grown_known}
use Rattle.attempt_book.proofs.attempts.Attempts.grow.Goals as goal

pub invariant_of-self : goal.invariant_of-self
invariant_of-self c =
    let a = c.self.inside in
    let kept = c.self.invariant in
    let new = sym c.grow_by.ensures.items in
    let within : length a.procs.items + c.args.count ≤ SLOT_LIMIT = omega (arith, c.requires, ap (λ (b : AttemptLists). length b.procs) c.self.view_is) in
    record {
      known = subst (λ (ps : List (Option ProcRow)). KeepsKnown (record { subs = a.subs.subs; procs = ps })) new (grown_known (lists_of a) kept.known c.args.count within);
      sums = subst (λ (ps : List (Option ProcRow)). KeepsSums ps a.subs.booked a.cores.items a.memory.items) new (grown_sums a.procs.items a.subs.booked a.cores.items a.memory.items kept.sums c.args.count);
      ways = subst (λ (ps : List (Option ProcRow)). KeepsWays ps a.first.items a.next.items) new (grown_ways a.procs.items a.first.items a.next.items kept.ways kept.known.count_within c.args.count);
      capacity = omega (arith, c.grow_by.ensures.capacity, kept.capacity);
    }
