use Rattle.std.proofs.Common.{◌∙◌, ℕ, List, ap}
use Rattle.std.specs.List.{slice_get}
use Rattle.attempt_book.specs.Book.{AttemptLists, next_on}
use Rattle.attempt_book.specs.Way.{slot_in}
use Rattle.attempt_book.proofs.KeptWays.{next-slot}
use Rattle.attempt_book.proofs.KnownAttempts.{live_there}
use Rattle.attempt_book.proofs.attempts.Attempts.next.Goals as goal

pub returns-in-Some : goal.returns-in-Some
returns-in-Some c =
    let a = c.self.inside in
    let p = c.in-Some.field-0 in
    let live = live_there a.procs.items c.as_slice.result.now c.args.slot p c.live_at.result c.as_slice.ensures.value c.live_at.ensures c.in-Some.is in
    c.slot_at.ensures
    ∙ ap (λ (marks : List ℕ). slot_in (slice_get marks c.slot.inside.0)) c.as_slice-in-Some.ensures.value
    ∙ ap (λ (n : ℕ). slot_in (slice_get a.next.items n)) c.slot.view_is
    ∙ next-slot a.procs.items a.first.items a.next.items c.self.invariant.ways c.self.invariant.known.count_within c.args.slot p live
    ∙ ap (λ (b : AttemptLists). next_on b.procs c.args.slot) c.self.view_is
