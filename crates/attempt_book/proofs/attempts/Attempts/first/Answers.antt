use Rattle.std.proofs.Common.{◌∙◌, ℕ, List, ap}
use Rattle.std.specs.List.{slice_get}
use Rattle.attempt_book.specs.Book.{AttemptLists, first_on}
use Rattle.attempt_book.specs.Way.{slot_in}
use Rattle.attempt_book.proofs.KeptWays.{first-slot}
use Rattle.attempt_book.proofs.attempts.Attempts.first.Goals as goal

pub returns : goal.returns
returns c =
    let a = c.self.inside in
    let known = c.self.invariant.known in
    c.slot_at.ensures
    ∙ ap (λ (marks : List ℕ). slot_in (slice_get marks c.from.result)) c.as_slice.ensures.value
    ∙ ap (λ (n : ℕ). slot_in (slice_get a.first.items n)) (c.from.ensures ∙ c.host.view_is)
    ∙ first-slot a.procs.items a.first.items a.next.items c.self.invariant.ways known.count_within c.args.host (λ i p at. (known.attempts_known i p at).host_within)
    ∙ ap (λ (b : AttemptLists). first_on b.procs c.args.host 0) c.self.view_is
