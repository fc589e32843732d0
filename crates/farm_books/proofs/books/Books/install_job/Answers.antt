use Rattle.std.specs.List.{list_all}
use Rattle.std.proofs.Common.{◌≡◌, ◌∙◌, ◌-◌, ℕ, List, length, ap, sym, arith}
use Rattle.farm_types.specs.declared.slot_row.SlotRow.{SlotRow}
use Rattle.farm_types.specs.Jobs.{JobLists, frames_of, place_frames}
use Rattle.farm_types.specs.Sums.{running_among}
use Rattle.attempt_book.specs.Book.{AttemptLists}
use Rattle.farm_books.specs.Inside.{is_framed}
use Rattle.farm_books.specs.Install.{procs_of}
use Rattle.farm_books.proofs.CountedLimits.{placed_framed, running_more}
use Rattle.farm_books.proofs.SlotAttempts.{placed_count, placed_procs}
use Rattle.farm_books.proofs.books.Books.install_job.Goals as goal

pub overflow_sub-after : goal.overflow_sub-after
overflow_sub-after c =
    let slots = c.self.inside.jobs.slots in
    let frames = frames_of c.self.inside.jobs.next_job 0 c.args.spec.layers in
    let before = ap (λ (ss : List SlotRow). length ss) c.slots-before.ensures.value in
    let after = ap (λ (ss : List SlotRow). length ss) (c.slots-after.ensures.value ∙ ap (λ (b : JobLists). b.slots) c.place.ensures.book) in
    omega (arith, before, after, placed_count slots frames)

pub invariant_of-self : goal.invariant_of-self
invariant_of-self c =
    let a = c.self.inside in
    let slots = a.jobs.slots in
    let frames = frames_of a.jobs.next_job 0 c.args.spec.layers in
    let before = ap (λ (ss : List SlotRow). length ss) c.slots-before.ensures.value in
    let after = ap (λ (ss : List SlotRow). length ss) (c.slots-after.ensures.value ∙ ap (λ (b : JobLists). b.slots) c.place.ensures.book) in
    let more : ℕ = length c.slots-after.result.now - length c.slots-before.result.now in
    let count : more ≡ length (place_frames slots frames) - length slots = omega (arith, before, after) in
    record {
      attempts_are =
          ap (λ (b : AttemptLists). b.procs) c.grow.ensures ∙ placed_procs a.attempts.procs slots frames more c.self.invariant.attempts_are count
          ∙ sym (ap (λ (b : JobLists). procs_of b.slots) c.place.ensures.book);
      framed = ap (λ (b : JobLists). list_all is_framed b.slots) c.place.ensures.book ∙ placed_framed slots frames c.self.invariant.framed;
      running = λ limit below.
          c.self.invariant.running limit below
          ∙ sym (ap (λ (b : JobLists). running_among b.layers limit b.slots) c.place.ensures.book
          ∙ running_more a.jobs.layers a.jobs.next_job c.args.placing.limits c.args.spec.layers limit slots c.next_number-next.ensures.no_frame c.self.invariant.framed);
    }
