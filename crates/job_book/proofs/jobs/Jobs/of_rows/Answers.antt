use Rattle.std.proofs.Common.{◌≡◌, ◌*◌, ◌∙◌, ℕ, List, length, map, filter, refl, sym, ap, subst, arith}
use Rattle.std.specs.List.{list_all}
use Rattle.farm_types.specs.declared.limits.TheConstants.{MOST_LAYERS, MOST_SHOWS}
use Rattle.farm_types.specs.declared.rows.JobRow.{JobRow}
use Rattle.farm_types.specs.declared.rows.LayerRow.{LayerRow}
use Rattle.farm_types.specs.Finish.{is_finished}
use Rattle.farm_types.specs.Jobs.{free_in}
use Rattle.farm_types.specs.Rising.{IsRising, job_key}
use Rattle.farm_types.specs.Rising.{layer_key as kept_key}
use Rattle.job_index.specs.declared.ready_jobs.TheConstants.{JOB_NUMBERS}
use Rattle.job_book.specs.Finished.{finish_key, has_finish}
use Rattle.job_book.specs.Inside.{counts_for}
use Rattle.job_index.specs.Places.{LayerPlaces}
use Rattle.job_book.specs.Names.{KeepsNames}
use Rattle.job_book.specs.Ready.{has_priority}
use Rattle.job_index.specs.Keys.{sorted}
use Rattle.job_index.specs.Names.{NameList}
use Rattle.job_book.specs.Restored.{keys_beside, lists_in}
use Rattle.job_entries.specs.Restored.{all_in, noted_from, unplaced}
use Rattle.job_book.proofs.RestoringLemmas.RestoredBook.{few_jobs, finishes, layers_numbered, made_book, numbered, priorities, rise}
use Rattle.job_book.proofs.RestoringLemmas.OwnedLayers.{owned}
use Rattle.job_book.proofs.RestoringLemmas.RestoredIndex.{noted_count, noted_layers, noted_waiting}
use Rattle.job_book.proofs.RestoringLemmas.RestoredKeys.{beside_is}
use Rattle.job_book.proofs.jobs.Jobs.of_rows.Goals as goal

pub counts_in-requires-clause-rise : goal.counts_in-requires-clause-rise
counts_in-requires-clause-rise c =
    let b = lists_in c.args.jobs.items c.args.layers.items c.args.slots.items c.args.next_job c.args.next_finish in
    subst (λ (js : List JobRow). IsRising job_key 0 js JOB_NUMBERS) (sym c.as_slice.ensures.value) (numbered b MOST_SHOWS c.requires)

pub index_of-requires-clause-rise : goal.index_of-requires-clause-rise
index_of-requires-clause-rise c =
    let b = lists_in c.args.jobs.items c.args.layers.items c.args.slots.items c.args.next_job c.args.next_finish in
    subst (λ (ls : List LayerRow). IsRising kept_key 0 ls (MOST_LAYERS * JOB_NUMBERS)) (sym c.as_slice-3.ensures.value) (layers_numbered b MOST_SHOWS c.requires)

pub names_of-requires-clause-few : goal.names_of-requires-clause-few
names_of-requires-clause-few c =
    let b = lists_in c.args.jobs.items c.args.layers.items c.args.slots.items c.args.next_job c.args.next_finish in
    omega (arith, ap (λ (js : List JobRow). length js) c.as_slice-5.ensures.value, few_jobs b MOST_SHOWS c.requires)

pub finished_of-requires-clause-rise : goal.finished_of-requires-clause-rise
finished_of-requires-clause-rise c =
    let b = lists_in c.args.jobs.items c.args.layers.items c.args.slots.items c.args.next_job c.args.next_finish in
    subst (λ (js : List JobRow). IsRising job_key 0 js JOB_NUMBERS) (sym c.as_slice-6.ensures.value) (numbered b MOST_SHOWS c.requires)

pub finished_of-requires-clause-within : goal.finished_of-requires-clause-within
finished_of-requires-clause-within c =
    let b = lists_in c.args.jobs.items c.args.layers.items c.args.slots.items c.args.next_job c.args.next_finish in
    ap (list_all has_finish) c.as_slice-6.ensures.value ∙ finishes b MOST_SHOWS c.requires

pub ready_lists-requires-clause-rise : goal.ready_lists-requires-clause-rise
ready_lists-requires-clause-rise c =
    let b = lists_in c.args.jobs.items c.args.layers.items c.args.slots.items c.args.next_job c.args.next_finish in
    subst (λ (js : List JobRow). IsRising job_key 0 js JOB_NUMBERS) (sym c.as_slice-7.ensures.value) (numbered b MOST_SHOWS c.requires)

pub ready_lists-requires-clause-priorities : goal.ready_lists-requires-clause-priorities
ready_lists-requires-clause-priorities c =
    let b = lists_in c.args.jobs.items c.args.layers.items c.args.slots.items c.args.next_job c.args.next_finish in
    ap (list_all has_priority) c.as_slice-7.ensures.value ∙ priorities b MOST_SHOWS c.requires

pub entries_of-requires-clause-rise : goal.entries_of-requires-clause-rise
entries_of-requires-clause-rise c =
    let b = lists_in c.args.jobs.items c.args.layers.items c.args.slots.items c.args.next_job c.args.next_finish in
    rise b MOST_SHOWS c.requires

pub entries_of-requires-clause-owned : goal.entries_of-requires-clause-owned
entries_of-requires-clause-owned c =
    let b = lists_in c.args.jobs.items c.args.layers.items c.args.slots.items c.args.next_job c.args.next_finish in
    owned b MOST_SHOWS c.requires

pub entries_of-requires-clause-index : goal.entries_of-requires-clause-index
entries_of-requires-clause-index c =
    let b = lists_in c.args.jobs.items c.args.layers.items c.args.slots.items c.args.next_job c.args.next_finish in
    let kept = c.requires in
    let index = c.in_ok-index.ensures ∙ (λ i. noted_from 0 (c.as_slice-3.ensures.value i) (c.as_slice-4.ensures.value i) (map unplaced (c.as_slice-3.ensures.value i))) in
    ap (λ (xs : List LayerPlaces). length xs) index ∙ noted_count b.layers _ (made_book b MOST_SHOWS kept).layers_rise b.slots kept.slots_kept kept.frames_once

pub invariant_of-result-3 : goal.invariant_of-result-3
invariant_of-result-3 c =
    let b = lists_in c.args.jobs.items c.args.layers.items c.args.slots.items c.args.next_job c.args.next_finish in
    let kept = c.requires in
    let book = made_book b MOST_SHOWS kept in
    let counted : c.in_ok-counts.counts.items ≡ counts_for b.jobs b.slots = c.in_ok-counts.ensures ∙ (λ i. counts_for (c.as_slice.ensures.value i) (c.as_slice-2.ensures.value i)) in
    let index = c.in_ok-index.ensures ∙ (λ i. noted_from 0 (c.as_slice-3.ensures.value i) (c.as_slice-4.ensures.value i) (map unplaced (c.as_slice-3.ensures.value i))) in
    let counts = c.as_slice-10.ensures.value ∙ counted in
    let entries = c.in_ok-entries_of.ensures ∙ (λ i. all_in b.jobs (counts i) b.layers (index i) b.next_job) in
    let slots = c.in_ok-with_room.ensures.items in
    let keys = c.in_ok-finished.ensures ∙ ap (λ (js : List JobRow). sorted (map finish_key (filter is_finished js))) c.as_slice-6.ensures.value in
    let free = c.count_free-free.ensures ∙ ap free_in c.as_slice-9.ensures.value in
    let beside = λ (show : ℕ). (λ i. keys_beside show (c.as_slice-7.ensures.value i) ((c.as_slice-8.ensures.value ∙ counted) i)) ∙ beside_is show b.slots b.jobs in
    record {
      lists = rw (entries, slots) book;
      names = rw entries (subst (λ (l : NameList). KeepsNames l.pairs b.jobs) (sym c.names.view_is) (subst (KeepsNames c.in_ok-names.names.pairs) c.as_slice-5.ensures.value c.in_ok-names.ensures));
      finishes = rw entries (record { from = kept.finish_from; left = kept.finish_within; numbered = kept.finishes_within; differ = kept.finishes_differ; few = kept.finished_count });
      finished = rw entries (record { keys_are = c.finished.view_is ∙ keys; within = finishes b MOST_SHOWS kept });
      free = rw slots (record { free_is = free; within = omega arith; none_below = refl });
      layers = rw (entries, slots) (noted_layers b.layers _ book.layers_rise b.slots kept.slots_kept kept.frames_once kept.frames_there);
      waiting = rw (entries, slots) (noted_waiting b.layers _ book.layers_rise b.slots kept.slots_kept kept.frames_once kept.frames_there);
      ready = rw (entries, slots) (record { priorities = priorities b MOST_SHOWS kept; as_many = c.in_ok-ready.ensures.count; keys = λ show ks at. c.in_ok-ready.ensures.keys show ks at ∙ ap sorted (beside show) });
      counts_are = rw (entries, slots) refl;
      slots_capacity = c.in_ok-with_room.ensures.capacity;
    }
