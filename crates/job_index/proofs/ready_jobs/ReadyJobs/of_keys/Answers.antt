use Rattle.std.proofs.Common.{◌≡◌, ◌∙◌, map, sym, ap}
use Rattle.std.proofs.lemmas.List.Sorted.{IsNonDecreasingBy-from_sort}
use Rattle.job_index.specs.Keys.{job_of, sorted}
use Rattle.job_index.proofs.SortedKeys.{sorted_is, sorted_rising}
use Rattle.job_index.proofs.ready_jobs.ReadyJobs.of_keys.Goals as goal

pub invariant_of-result : goal.invariant_of-result
invariant_of-result c =
    let keys = c.args.keys.items in
    let in_order = sorted_is keys c.sort_unstable.new.self.items c.requires c.sort_unstable.ensures.permutation (IsNonDecreasingBy-from_sort (λ n. n) c.sort_unstable.new.self.items c.sort_unstable.ensures.sorted) in
    let items : c.in_ok-plain_copies.field-0.items ≡ sorted keys = c.in_ok-plain_copies.ensures.items ∙ c.as_slice.ensures.value ∙ in_order in
    record {
      rising = rw items (sorted_rising keys c.requires);
      jobs_are = c.in_ok-jobs_of.ensures.items ∙ ap (map job_of) (c.as_slice-2.ensures.value ∙ sym (c.in_ok-plain_copies.ensures.items ∙ c.as_slice.ensures.value));
      keys_capacity = c.in_ok-plain_copies.ensures.capacity;
      jobs_capacity = c.in_ok-jobs_of.ensures.capacity;
    }

pub returns : goal.returns
returns c =
    let keys = c.args.keys.items in
    c.in_ok-plain_copies.ensures.items ∙ c.as_slice.ensures.value
    ∙ sorted_is keys c.sort_unstable.new.self.items c.requires c.sort_unstable.ensures.permutation (IsNonDecreasingBy-from_sort (λ n. n) c.sort_unstable.new.self.items c.sort_unstable.ensures.sorted)
