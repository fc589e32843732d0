use Rattle.std.proofs.Common.{refl, arith}
use Rattle.std.proofs.lemmas.Option.{none-some}
use Rattle.farm_law.proofs.KeptJobsLists.{nothing_differs}
use Rattle.job_book.proofs.jobs.Jobs.make.Goals as goal

pub invariant_of-result : goal.invariant_of-result
invariant_of-result c =
    let entries = c.in_ok-make.ensures in
    let slots = c.in_ok-with_capacity.ensures.items in
    record {
      lists = rw (entries, slots) (record { slot_count = omega arith; next_within = omega arith; jobs_rise = omega arith; layers_rise = omega arith; layers_owned = refl; frames_below = refl; slots_had = refl; jobs_fit = omega arith });
      names = rw (entries, c.in_ok-make-2.ensures.none) (record { named = λ name. refl; as_many = omega arith });
      finishes = rw entries (record { from = omega arith; left = omega arith; numbered = refl; differ = nothing_differs; few = omega arith });
      finished = rw (entries, c.in_ok-make-3.ensures) (record { keys_are = refl; within = refl });
      free = rw slots (record { free_is = refl; within = omega arith; none_below = refl });
      layers = rw (entries, slots) (record { as_many = refl; found = λ job layer position. refl; first = λ slot row x at framed. absurd (none-some row at) });
      waiting = rw (entries, slots) (record { marks = λ place x at. absurd (none-some x at) });
      ready = rw (entries, slots) (record { priorities = refl; as_many = c.in_ok-no_ready.ensures.count; keys = λ show ks there. c.in_ok-no_ready.ensures.none show ks there });
      counts_are = rw entries refl;
      slots_capacity = c.in_ok-with_capacity.ensures.capacity;
    }
