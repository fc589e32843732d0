-- A job that is submitted keeps what the farm keeps of its jobs.
use Rattle.std.proofs.Common.{◌≡◌, ℕ, suc, zero, ◌+◌, ◌*◌, ◌<◌, ◌≤◌, Bool, true, false, not, eqb, map, append-nil, List, [], ◌∷◌, ◌++◌, length, Option, Some, refl, sym, ap, subst, ◌∙◌, arith, length-append, ◌⊎◌, inl, inr}
use Rattle.std.specs.Prelude.{nat_eq}
use Rattle.std.specs.List.{IsDistinct, filter, find, list_all, slice_get, sum_by}
use Rattle.std.specs.Cmp.Derive.{both_true}
use Rattle.std.proofs.lemmas.Bool.{cases_eq, false_from_ne_true}
use Rattle.std.proofs.lemmas.List.Elements.{filter-append}
use Rattle.std.proofs.lemmas.List.Folds.{list_all-append}
use Rattle.std.proofs.lemmas.Option.{none-some, same_Some}
use Rattle.farm_types.specs.declared.job.JobSpec.{JobSpec}
use Rattle.farm_types.specs.declared.rows.JobRow.{JobRow}
use Rattle.farm_types.specs.declared.rows.LayerRow.{LayerRow}
use Rattle.farm_types.specs.declared.slot_row.Frame.{Frame}
use Rattle.farm_types.specs.declared.slot_row.SlotRow.{SlotRow}
use Rattle.farm_types.specs.declared.limits.TheConstants.{MOST_FINISHED, MOST_LAYERS, SLOT_LIMIT}
use Rattle.farm_types.specs.Finish.{is_finished}
use Rattle.farm_types.specs.Formed.{IsFormedJob}
use Rattle.farm_types.specs.Jobs.{JobLists, frames_of, is_finished_named, job_row, layer_rows, new_frame, place_frames, with_job, without_finished}
use Rattle.farm_types.specs.Farm.{is_placed}
use Rattle.farm_types.specs.Kept.{EachOnce, EachThere, HasItsLayers, KeepsJobs, finish_of, has_its_counts, has_its_finish, is_formed_job, is_formed_layer, is_kept_slot, is_of_pending, is_pending_job}
use Rattle.farm_types.specs.Ranges.{range_numbers}
use Rattle.farm_types.specs.Rising.{IsRising, job_key, layer_key}
use Rattle.farm_types.proofs.Lists.{for_some_true}
use Rattle.farm_types.proofs.Passes.{for_some-there}
use Rattle.farm_law.proofs.Filtered.{at_kept, differ-filter, fewer_kept, filter_swap, filter_within, found_kept, list_all-filter, rising-filter}
use Rattle.farm_law.proofs.KeptJobsAdded.{Accepted, in_either, names_added, new_layered, new_pending, none_counted, old_layered, row_is_formed, slots_more}
use Rattle.farm_law.proofs.KeptJobsCounts.{count_at, count_from_once, count_there, counts_frame, once_from_count, stands_at, there_counts}
use Rattle.farm_law.proofs.KeptJobsFrames.{counts, length-frames_of, of_kept, of_once, of_there, of_zero}
use Rattle.farm_law.proofs.KeptJobsLayers.{none_in_next, rows_formed, rows_pass, rows_rise}
use Rattle.farm_law.proofs.KeptJobsLists.{found_more, rising-append, rising_below}
use Rattle.farm_law.proofs.KeptLists.{list_all-weaker}
use Rattle.farm_law.proofs.Placed.{stays_there}
use Rattle.farm_law.proofs.KeptJobsPlaced.{ends_placed, kept_placed, length-place_frames, sum_placed}

module _ (b : JobLists) (limits : List (Option ℕ)) (spec : JobSpec) (show shows : ℕ) (formed : IsFormedJob spec) (ok : Accepted b spec) (kept : KeepsJobs b shows) where
  -- what the job adds
  abbrev frames : List Frame
  frames = frames_of b.next_job 0 spec.layers

  abbrev rows : List LayerRow
  rows = layer_rows b.next_job limits 0 spec.layers

  abbrev row : JobRow
  row = job_row b.next_job show spec

  abbrev slots : List SlotRow
  slots = place_frames b.slots frames

  -- the jobs that were there and stay, and those with the new one
  abbrev stays : JobRow → Bool
  stays j = not (is_finished_named spec.name j)

  abbrev olds : List JobRow
  olds = without_finished spec.name b.jobs

  abbrev jobs : List JobRow
  jobs = olds ++ row ∷ []

  -- a pending job stays
  pending_stays : (j : JobRow) → is_pending_job j ≡ true → stays j ≡ true
  pending_stays j pending = stays_there spec.name j pending

  olds_rise : IsRising job_key 1 olds b.next_job
  olds_rise = rising-filter job_key stays 1 b.jobs b.next_job kept.jobs_rise

  -- one pending job more
  one_more : b.next_finish + length (filter is_pending_job jobs) ≤ b.next_job + 1
  one_more =
      let long : length (filter is_pending_job jobs) ≡ length (filter is_pending_job olds) + 1 =
      ap length (filter-append is_pending_job olds (row ∷ [])) ∙ length-append (filter is_pending_job olds) (row ∷ []) in
      omega (arith, long, ap length (filter_within is_pending_job stays pending_stays b.jobs), kept.finish_within)

  -- the finished ones are those that stay
  finished_are : filter is_finished jobs ≡ filter stays (filter is_finished b.jobs)
  finished_are = filter-append is_finished olds (row ∷ []) ∙ (append-nil (filter is_finished olds) ∙ filter_swap is_finished stays b.jobs)

  few_finished : length (filter is_finished jobs) ≤ MOST_FINISHED
  few_finished = omega (arith, ap length finished_are, fewer_kept stays (filter is_finished b.jobs), kept.finished_count)

  finishes_known : list_all (has_its_finish b.next_finish) jobs ≡ true
  finishes_known =
      list_all-append (has_its_finish b.next_finish) olds (row ∷ []) ∙ both_true (list_all-filter (has_its_finish b.next_finish) stays b.jobs kept.finishes_within) refl

  finishes_apart : IsDistinct nat_eq (map finish_of (filter is_finished jobs))
  finishes_apart =
      subst (λ (js : List JobRow). IsDistinct nat_eq (map finish_of js)) (sym finished_are) (differ-filter finish_of nat_eq stays (filter is_finished b.jobs) kept.finishes_differ)

  counts_known : list_all has_its_counts jobs ≡ true
  counts_known = list_all-append has_its_counts olds (row ∷ []) ∙ both_true (list_all-filter has_its_counts stays b.jobs kept.jobs_counted) refl

  -- each pending job has its layers
  layered_at : (n : ℕ) (j : JobRow) → (slice_get olds n ≡ Some j) ⊎ ((m : ℕ) × (slice_get (row ∷ []) m ≡ Some j)) → is_pending_job j ≡ true → HasItsLayers (b.layers ++ rows) j
  layered_at n j (inl here) pending =
      let at = at_kept stays b.jobs n j here in
      old_layered b.layers b.next_job limits spec j (rising_below job_key 1 b.jobs b.next_job at.0 j kept.jobs_rise at.1) (kept.jobs_layered at.0 j at.1 pending)
  layered_at n j (inr new) pending = at_new new.0 new.1
    where
      at_new : (m : ℕ) → slice_get (row ∷ []) m ≡ Some j → HasItsLayers (b.layers ++ rows) j
      at_new zero at = subst (HasItsLayers (b.layers ++ rows)) (same_Some row j at) (new_layered b.layers b.next_job limits spec show formed kept.layers_rise ok.layers_new)
      at_new (suc m) at = absurd (none-some j at)

  few : 0 + length spec.layers ≤ MOST_LAYERS
  few = omega (arith, formed.limits.layers_within.1)

  -- layers stay in order
  layers_rising : IsRising layer_key 0 (b.layers ++ rows) (MOST_LAYERS * (b.next_job + 1))
  layers_rising =
      let from : MOST_LAYERS * b.next_job + 0 ≡ MOST_LAYERS * b.next_job = omega arith in
      rising-append layer_key 0 (MOST_LAYERS * b.next_job) (MOST_LAYERS * (b.next_job + 1)) b.layers rows kept.layers_rise
      (subst (λ k. IsRising layer_key k rows (MOST_LAYERS * (b.next_job + 1))) from (rows_rise b.next_job limits 0 spec.layers few))

  -- a job that was pending is so
  still_pending : (job : ℕ) → is_of_pending b.jobs job ≡ true → is_of_pending jobs job ≡ true
  still_pending job there =
      let test = λ (j : JobRow). eqb j.job job in
      let old = for_some_true (find test b.jobs) is_pending_job there in
      for_some-there (find test jobs) is_pending_job old.0 (found_more test olds (row ∷ []) old.0 (found_kept test stays b.jobs old.0 old.1 (pending_stays old.0 old.2))) old.2

  -- each layer is of a job that is there and pending
  owned : list_all (λ (l : LayerRow). is_of_pending jobs l.job) (b.layers ++ rows) ≡ true
  owned =
      let old = list_all-weaker (λ (l : LayerRow). is_of_pending b.jobs l.job) (λ (l : LayerRow). is_of_pending jobs l.job) (λ l there. still_pending l.job there) b.layers kept.layers_owned in
      list_all-append (λ (l : LayerRow). is_of_pending jobs l.job) b.layers rows
      ∙ both_true old (rows_pass (is_of_pending jobs) b.next_job limits 0 spec.layers (new_pending olds b.next_job show spec olds_rise))

  -- there was a slot for each frame
  slots_within : length slots ≤ SLOT_LIMIT
  slots_within = omega (arith, length-place_frames b.slots frames, length-frames_of b.next_job 0 spec.layers, ok.room, kept.slot_count)

  -- each slot is kept
  each_kept : list_all (is_kept_slot (b.layers ++ rows)) slots ≡ true
  each_kept =
      kept_placed (b.layers ++ rows) b.slots frames (slots_more b.layers rows b.slots kept.slots_kept)
      (of_kept b.layers b.next_job limits 0 spec.layers formed.each_layer (λ place above. none_in_next b.layers b.next_job kept.layers_rise place))

  -- the frames at a position are the old ones and the new ones there
  count_all : (job layer position : ℕ) → count_at job layer position slots ≡ count_at job layer position b.slots + sum_by (counts job layer position) frames
  count_all job layer position = sum_placed (counts_frame job layer position) refl b.slots frames

  -- none of the new ones is of another job
  other_job : (job layer position : ℕ) → (job ≡ b.next_job → ⊥) → sum_by (counts job layer position) frames ≡ 0
  other_job job layer position apart = of_zero job layer position b.next_job 0 spec.layers (λ place k n above. fails (new_frame b.next_job place k n) apart)
    where
      fails : (x : Frame) → (job ≡ x.job → ⊥) → is_placed job layer position x ≡ false
      fails x other = false_from_ne_true (is_placed job layer position x) (λ h. other (sym (stands_at job layer position x h).job_is))

  -- none is counted twice
  most_one : (job layer position : ℕ) → (job ≡ b.next_job) ⊎ (job ≡ b.next_job → ⊥) → count_at job layer position slots ≤ 1
  most_one job layer position (inl here) =
      let none = none_counted b.layers b.next_job kept.layers_rise b.slots kept.slots_kept layer position in
      let none_here : count_at job layer position b.slots ≡ 0 = rw here none in
      omega (arith, count_all job layer position, none_here, of_once job layer position b.next_job 0 spec.layers)
  most_one job layer position (inr apart) =
      omega (arith, count_all job layer position, count_from_once b.slots kept.frames_once job layer position, other_job job layer position apart)

  once : EachOnce slots
  once = once_from_count slots (λ job layer position. most_one job layer position (cases_eq job b.next_job))

  -- each is counted
  there_at : (n : ℕ) (l : LayerRow) → (slice_get b.layers n ≡ Some l) ⊎ ((m : ℕ) × (slice_get rows m ≡ Some l)) → (position : ℕ) → position < length (range_numbers l.range) → 1 ≤ count_at l.job l.place position slots
  there_at n l (inl at) position within =
      omega (arith, count_all l.job l.place position, there_counts (is_placed l.job l.place position) 0 b.slots (kept.frames_there n l at position within))
  there_at n l (inr new) position within =
      omega (arith, count_all l.job l.place position, of_there b.next_job limits 0 spec.layers new.0 l position formed.each_layer new.1 within)

  there : EachThere (b.layers ++ rows) slots
  there n l at position within = count_there (is_placed l.job l.place position) 0 slots (there_at n l (in_either b.layers rows n l at) position within)

  -- the lists with the job
  pub submitted : show < shows → KeepsJobs (with_job b show limits spec) shows
  submitted shown =
      record {
        next_within = omega (arith, ok.number);
        finish_from = kept.finish_from;
        finish_within = one_more;
        finished_count = few_finished;
        finishes_within = finishes_known;
        finishes_differ = finishes_apart;
        jobs_counted = counts_known;
        jobs_rise = rising-append job_key 1 b.next_job (b.next_job + 1) olds (row ∷ []) olds_rise (omega arith, omega arith);
        jobs_formed = list_all-append (is_formed_job shows) olds (row ∷ []) ∙ both_true (list_all-filter (is_formed_job shows) stays b.jobs kept.jobs_formed) (both_true (row_is_formed b.next_job show shows spec formed shown) refl);
        jobs_differ = names_added b.jobs b.next_job show spec kept.jobs_differ ok.name_new;
        jobs_layered = λ n j at pending. layered_at n j (in_either olds (row ∷ []) n j at) pending;
        layers_rise = layers_rising;
        layers_formed = list_all-append is_formed_layer b.layers rows ∙ both_true kept.layers_formed (rows_formed b.next_job limits 0 spec.layers few formed.each_layer);
        layers_owned = owned;
        slot_count = slots_within;
        slots_kept = each_kept;
        frames_once = once;
        frames_there = there;
        ends_used = ends_placed b.slots frames kept.ends_used;
      }
