use Rattle.std.proofs.Common.{◌≡◌, ◌∙◌, List, Option, None, Some, ap, subst, sym, arith}
use Rattle.std.proofs.lemmas.Option.{none-some, slice_get_within}
use Rattle.farm_types.specs.declared.attempt.ProcRow.{ProcRow}
use Rattle.attempt_book.specs.Book.{AttemptLists, live_in}
use Rattle.attempt_book.specs.Inside.{lists_of}
use Rattle.attempt_book.specs.Way.{IsJoin}
use Rattle.attempt_book.proofs.KeptSums.{booked_among, cores_among, ended_sums, memory_among}
use Rattle.attempt_book.proofs.KeptWays.{ended_ways}
use Rattle.attempt_book.proofs.KnownAttempts.{changed_known, live_there, slice_set-none}
use Rattle.attempt_book.proofs.attempts.Attempts.end.Goals as goal

pub returns-in_default : goal.returns-in_default
returns-in_default c =
    let none : live_in c.args.self.now.procs c.args.slot ≡ None =
    ap (λ (b : AttemptLists). live_in b.procs c.args.slot) (sym c.self.view_is)
    ∙ (ap (λ (ps : List (Option ProcRow)). live_in ps c.args.slot) (sym c.as_slice.ensures.value) ∙ (sym c.live_at.ensures ∙ c.in_default.is)) in
    λ j. record { subs = c.args.self.now.subs; procs = sym (slice_set-none c.args.self.now.procs c.args.slot none) j }

pub join-from-requires-clause-host : goal.join-from-requires-clause-host
join-from-requires-clause-host c =
    let live = live_there c.self.inside.procs.items c.as_slice.result.now c.args.slot c.in-Some.proc c.live_at.result c.as_slice.ensures.value c.live_at.ensures c.in-Some.is in
    let known = c.self.invariant.known.attempts_known c.args.slot c.in-Some.proc live in
    known.host_within

pub join-from-requires-clause-slot : goal.join-from-requires-clause-slot
join-from-requires-clause-slot c =
    let live = live_there c.self.inside.procs.items c.as_slice.result.now c.args.slot c.in-Some.proc c.live_at.result c.as_slice.ensures.value c.live_at.ensures c.in-Some.is in
    let within = slice_get_within c.self.inside.procs.items c.args.slot (Some c.in-Some.proc) live in
    omega (arith, within, c.self.invariant.known.count_within)

pub unlink-requires-clause-host : goal.unlink-requires-clause-host
unlink-requires-clause-host c =
    let live = live_there c.self.inside.procs.items c.as_slice.result.now c.args.slot c.in-Some.proc c.live_at.result c.as_slice.ensures.value c.live_at.ensures c.in-Some.is in
    let known = c.self.invariant.known.attempts_known c.args.slot c.in-Some.proc live in
    omega (arith, known.host_within, c.self.invariant.ways.first_counted)

pub unlink-requires-clause-slot : goal.unlink-requires-clause-slot
unlink-requires-clause-slot c =
    let live = live_there c.self.inside.procs.items c.as_slice.result.now c.args.slot c.in-Some.proc c.live_at.result c.as_slice.ensures.value c.live_at.ensures c.in-Some.is in
    let within = slice_get_within c.self.inside.procs.items c.args.slot (Some c.in-Some.proc) live in
    omega (arith, within, c.self.invariant.known.count_within, c.self.invariant.ways.next_counted)

pub unlink-requires-clause-from : goal.unlink-requires-clause-from
unlink-requires-clause-from c =
    let live = live_there c.self.inside.procs.items c.as_slice.result.now c.args.slot c.in-Some.proc c.live_at.result c.as_slice.ensures.value c.live_at.ensures c.in-Some.is in
    let within = slice_get_within c.self.inside.procs.items c.args.slot (Some c.in-Some.proc) live in
    omega (arith, within, c.join-from.ensures.within, c.self.invariant.known.count_within, c.self.invariant.ways.next_counted)

pub lower_cores-requires : goal.lower_cores-requires
lower_cores-requires c =
    let live = live_there c.self.inside.procs.items c.as_slice.result.now c.args.slot c.in-Some.proc c.live_at.result c.as_slice.ensures.value c.live_at.ensures c.in-Some.is in
    cores_among c.self.inside.procs.items c.self.inside.subs.booked c.self.inside.cores.items c.self.inside.memory.items c.self.invariant.sums c.args.slot c.in-Some.proc live

pub lower_memory-requires : goal.lower_memory-requires
lower_memory-requires c =
    let live = live_there c.self.inside.procs.items c.as_slice.result.now c.args.slot c.in-Some.proc c.live_at.result c.as_slice.ensures.value c.live_at.ensures c.in-Some.is in
    memory_among c.self.inside.procs.items c.self.inside.subs.booked c.self.inside.cores.items c.self.inside.memory.items c.self.invariant.sums c.args.slot c.in-Some.proc live

pub remove-requires : goal.remove-requires
remove-requires c =
    let live = live_there c.self.inside.procs.items c.as_slice.result.now c.args.slot c.in-Some.proc c.live_at.result c.as_slice.ensures.value c.live_at.ensures c.in-Some.is in
    let known = c.self.invariant.known.attempts_known c.args.slot c.in-Some.proc live in
    record { there = known.sub_there; enough = booked_among c.self.inside.procs.items c.self.inside.subs.booked c.self.inside.cores.items c.self.inside.memory.items c.self.invariant.sums c.args.slot c.in-Some.proc live }

pub set_at-requires : goal.set_at-requires
set_at-requires c =
    let live = live_there c.self.inside.procs.items c.as_slice.result.now c.args.slot c.in-Some.proc c.live_at.result c.as_slice.ensures.value c.live_at.ensures c.in-Some.is in
    let within = slice_get_within c.self.inside.procs.items c.args.slot (Some c.in-Some.proc) live in
    within

pub invariant_of-self : goal.invariant_of-self
invariant_of-self c =
    let a = c.self.inside in
    let kept = c.self.invariant in
    let p = c.in-Some.proc in
    let slot = c.args.slot in
    let live = live_there a.procs.items c.as_slice.result.now slot p c.live_at.result c.as_slice.ensures.value c.live_at.ensures c.in-Some.is in
    let host = (kept.known.attempts_known slot p live).host_within in
    let join = subst (λ (b : AttemptLists). IsJoin b.procs p.host slot c.join-from.result) (sym c.self.view_is) c.join-from.ensures in
    record {
      known = rw (c.remove.ensures, c.set_at.ensures.items) (changed_known (lists_of a) kept.known slot (Some p) None live (λ q same. absurd (none-some q same)));
      sums =
          rw (c.remove.ensures, c.set_at.ensures.items, c.lower_cores.ensures, c.lower_memory.ensures)
          (ended_sums a.procs.items a.subs.booked a.cores.items a.memory.items kept.sums slot p live);
      ways =
          rw (c.set_at.ensures.items, c.unlink.ensures.first, c.unlink.ensures.next)
          (ended_ways a.procs.items a.first.items a.next.items kept.ways kept.known.count_within slot c.join-from.result p host join live);
      capacity = omega (arith, c.set_at.ensures.capacity, kept.capacity);
    }
