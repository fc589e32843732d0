use Rattle.std.proofs.Common.{◌∙◌, length, sym, ap}
use Rattle.std.specs.List.{list_all}
use Rattle.farm_types.specs.Jobs.{JobLists}
use Rattle.farm_types.specs.Step.{lists_of}
use Rattle.farm_rows.specs.Lists.{farm_in}
use Rattle.attempt_book.specs.Book.{AttemptLists}
use Rattle.farm_law.proofs.RunningInLimits.{free_have_none}
use Rattle.farm_books.specs.Inside.{is_framed}
use Rattle.farm_books.specs.Install.{procs_of}
use Rattle.farm_books.proofs.CountedLimits.{given_framed}
use Rattle.farm_books.proofs.RestoredBooks.{booked_in_slots, known_in, most_shows}
use Rattle.farm_books.proofs.books.Books.of_lists.Goals as goal

pub of_slots-requires-clause-known : goal.of_slots-requires-clause-known
of_slots-requires-clause-known c =
    known_in (farm_in c.args.lists) c.as_slice.result.now c.as_slice-2.result.now c.requires c.as_slice.ensures.value c.as_slice-2.ensures.value

pub of_slots-requires-clause-booked : goal.of_slots-requires-clause-booked
of_slots-requires-clause-booked c = booked_in_slots (farm_in c.args.lists) c.as_slice-2.result.now c.requires c.as_slice-2.ensures.value

pub of_rows-requires-4 : goal.of_rows-requires-4
of_rows-requires-4 c =
    let f = farm_in c.args.lists in
    most_shows (lists_of f) (length f.shows) c.requires.shows.count c.requires.jobs

pub invariant_of-result : goal.invariant_of-result
invariant_of-result c =
    let f = farm_in c.args.lists in
    let slots = c.as_slice-2.ensures.value ∙ sym (ap (λ (b : JobLists). b.slots) c.in_ok-jobs.ensures) in
    record {
      attempts_are =
          ap (λ (b : AttemptLists). b.procs) c.in_ok-attempts.ensures
          ∙ ap procs_of slots;
      framed = ap (λ (b : JobLists). list_all is_framed b.slots) c.in_ok-jobs.ensures ∙ given_framed f.slots (free_have_none f.slots c.requires.sound.attempts);
      running = c.in_ok-limits.ensures.running;
    }
