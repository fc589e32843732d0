use Rattle.std.proofs.Common.{None, Some, subst, sym, arith}
use Rattle.std.proofs.lemmas.Option.{same_Some, slice_get_within}
use Rattle.attempt_book.specs.Book.{AttemptLists}
use Rattle.attempt_book.specs.Inside.{IsKnown, lists_of}
use Rattle.attempt_book.specs.Restore.{CanResume}
use Rattle.attempt_book.specs.Way.{IsJoin}
use Rattle.attempt_book.proofs.KeptSums.{begun_sums, cores_small, memory_small}
use Rattle.attempt_book.proofs.KeptWays.{begun_ways}
use Rattle.attempt_book.proofs.KnownAttempts.{changed_known, number_below}
use Rattle.attempt_book.proofs.attempts.Attempts.resume.Goals as goal

pub raise_cores-requires : goal.raise_cores-requires
raise_cores-requires c =
    let procs = c.self.inside.procs.items in
    let kept = c.self.invariant in
    omega (arith, kept.sums.cores_kept c.args.proc.host, cores_small procs c.args.proc.host kept.known.count_within (λ i q at. (kept.known.attempts_known i q at).cores_within))

pub raise_memory-requires : goal.raise_memory-requires
raise_memory-requires c =
    let procs = c.self.inside.procs.items in
    let kept = c.self.invariant in
    omega (arith, kept.sums.memory_kept c.args.proc.host, memory_small procs c.args.proc.host kept.known.count_within (λ i q at. (kept.known.attempts_known i q at).memory_within))

pub set_at-requires : goal.set_at-requires
set_at-requires c =
    let can = subst (λ (b : AttemptLists). CanResume b c.args.slot c.args.proc) (sym c.self.view_is) c.requires in
    slice_get_within c.self.inside.procs.items c.args.slot None can.free

pub invariant_of-self : goal.invariant_of-self
invariant_of-self c =
    let a = c.self.inside in
    let kept = c.self.invariant in
    let p = c.args.proc in
    let slot = c.args.slot in
    let can = subst (λ (b : AttemptLists). CanResume b slot p) (sym c.self.view_is) c.requires in
    let join = subst (λ (b : AttemptLists). IsJoin b.procs p.host slot c.join-from.result) (sym c.self.view_is) c.join-from.ensures in
    let new : IsKnown a.subs.subs p = record { host_within = can.host_within; sub_there = can.there; cores_within = c.raise_cores.ensures.within; memory_within = c.raise_memory.ensures.within } in
    record {
      known = rw (c.count.ensures, c.set_at.ensures.items) (changed_known (lists_of a) kept.known slot None (Some p) can.free (λ q same. subst (IsKnown a.subs.subs) (same_Some p q same) new));
      sums =
          rw (c.count.ensures, c.set_at.ensures.items, c.raise_cores.ensures.totals, c.raise_memory.ensures.totals)
          (begun_sums a.procs.items a.subs.booked a.cores.items a.memory.items kept.sums slot p can.free can.host_within (number_below a.subs.subs p.sub kept.known.subs_within can.there));
      ways =
          rw (c.set_at.ensures.items, c.link.ensures.first, c.link.ensures.next)
          (begun_ways a.procs.items a.first.items a.next.items kept.ways kept.known.count_within slot c.join-from.result p can.host_within join can.free);
      capacity = omega (arith, c.set_at.ensures.capacity, kept.capacity);
    }
