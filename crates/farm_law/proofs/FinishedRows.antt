-- A job that finishes leaves what the farm keeps of jobs, layers and slots.
use Rattle.std.proofs.Common.{◌≡◌, ℕ, ◌+◌, ◌*◌, ◌≤◌, Bool, true, false, cond, not, ◌&&◌, eqb, leb, ltb, List, [], ◌∷◌, map, length, Option, Some, None, refl, sym, ap, subst, ◌∙◌, arith}
use Rattle.std.specs.Prelude.{bytes_eq}
use Rattle.std.specs.Cmp.Derive.{both_true}
use Rattle.std.specs.List.{IsDistinct, filter, find, list_all, list_any, slice_get}
use Rattle.std.proofs.lemmas.Bool.{eq-eqb, eqb-true, false≢true, false_from_ne_true, le-leb, leb-true, lt-ltb, ltb-false, not-true, not_from_false}
use Rattle.std.proofs.lemmas.List.{length-map}
use Rattle.std.proofs.lemmas.List.Folds.{list_all-map}
use Rattle.std.proofs.lemmas.Option.{none-some}
use Rattle.farm_types.specs.declared.limits.TheConstants.{LAST_VERSION, MOST_LAYERS}
use Rattle.farm_types.specs.declared.rows.JobRow.{JobRow}
use Rattle.farm_types.specs.declared.rows.LayerRow.{LayerRow}
use Rattle.farm_types.specs.declared.slot_row.Frame.{Frame}
use Rattle.farm_types.specs.declared.slot_row.SlotRow.{SlotRow}
use Rattle.farm_types.specs.Farm.{for_some, is_placed, layers_of, for_any, layer_in}
use Rattle.farm_types.specs.Finish.{count_where, cut_finished, finished_row, freed_row, has_succeeded, is_frame_of, was_eaten, with_finished}
use Rattle.farm_types.specs.Jobs.{JobLists}
use Rattle.farm_types.specs.Kept.{AllDiffer, EachOnce, EachThere, EndsUsed, HasItsLayers, KeepsJobs, has_its_counts, has_its_finish, is_formed_job, is_formed_layer, is_kept_frame, is_kept_slot, is_of_pending, is_pending_job, is_used, job_label}
use Rattle.farm_types.specs.Operators.{is_left_of}
use Rattle.farm_types.specs.Rising.{IsRising, job_key, layer_key}
use Rattle.farm_types.specs.Settle.{raised}
use Rattle.farm_types.proofs.Changed.{mapped_each}
use Rattle.farm_types.proofs.ChangedLists.{map-map_kept}
use Rattle.farm_types.proofs.Lists.{and_both, for_some_true, found_is, list_all-at, list_all-from_at}
use Rattle.farm_types.proofs.Passes.{cond_each, for_some-there}
use Rattle.farm_law.proofs.Filtered.{at_kept, differ-filter, filter_within, found_kept, list_all-filter, rising-filter}
use Rattle.farm_law.proofs.Finished.{free_row}
use Rattle.farm_law.proofs.FinishedCounts.{all_done, own_frames}
use Rattle.farm_law.proofs.FinishedJobs.{all_finished, finished_if, found_by_number, still_found, unchanged}
use Rattle.farm_law.proofs.FinishedOne.{IsAmong, cut_each, few_cut, finish_known, finishes_apart, finishes_kept, is_among, one_fewer, one_more, pending_kept, stays}
use Rattle.farm_law.proofs.Follows.{raised_raises}
use Rattle.farm_law.proofs.KeptAttempts.{for_any_then}
use Rattle.farm_law.proofs.KeptJobsAdded.{has_its}
use Rattle.farm_law.proofs.KeptJobsCounts.{count_there, counts_frame, stands_at, there_counts}
use Rattle.farm_law.proofs.KeptJobsLists.{rising-map}
use Rattle.farm_law.proofs.KeptJobsRows.{frame_kept, keeps_frame}
use Rattle.farm_law.proofs.KeptJobsZip.{zip_map, zip_sum}
use Rattle.farm_law.proofs.KeptLists.{list_all-weaker}

-- ---- layers

module _ (job : ℕ) (layers : List LayerRow) where
  abbrev pub is_other_layer : LayerRow → Bool
  is_other_layer l = not (eqb l.job job)

  -- the layers of other jobs
  abbrev pub others : List LayerRow
  others = filter is_other_layer layers

  of_other : (n : ℕ) (l : LayerRow) → eqb n job ≡ false → eqb l.job n ≡ true → is_other_layer l ≡ true
  of_other n l other is = not_from_false (eqb l.job job) (subst (λ (m : ℕ). eqb m job ≡ false) (sym (eqb-true l.job n is)) other)

  -- another job has its layers still
  pub layers_stay : (n : ℕ) → eqb n job ≡ false → layers_of others n ≡ layers_of layers n
  layers_stay n other = filter_within (λ (l : LayerRow). eqb l.job n) is_other_layer (λ l is. of_other n l other is) layers

  -- and each at its place
  pub layer_stays : (n place : ℕ) (l : LayerRow) → eqb n job ≡ false → layer_in layers n place ≡ Some l → layer_in others n place ≡ Some l
  layer_stays n place l other at =
      let test = λ (k : LayerRow). eqb k.job n && eqb k.place place in
      let both = and_both (eqb l.job n) (eqb l.place place) (found_is test layers l at) in
      found_kept test is_other_layer layers l at (of_other n l other both.0)

  -- a frame of another job is kept
  frame_stays : (x : Frame) → eqb x.job job ≡ false → is_kept_frame layers x ≡ true → is_kept_frame others x ≡ true
  frame_stays x other kept =
      let had = frame_kept layers x kept in
      let layer = for_some_true (layer_in layers x.job x.layer) _ had.number in
      keeps_frame others x
      (record {
        number = for_some-there (layer_in others x.job x.layer) _ layer.0 (layer_stays x.job x.layer layer.0 other layer.1) layer.2;
        retries = had.retries;
        state = had.state;
      })

-- ---- slots

-- the frame of a slot that isn't freed is of another job
pub frame_other : (job : ℕ) (o : Option Frame) (x : Frame) → for_some o (λ (y : Frame). eqb y.job job) ≡ false → o ≡ Some x → eqb x.job job ≡ false
frame_other job o x none here = subst (λ (p : Option Frame). for_some p (λ (y : Frame). eqb y.job job) ≡ false) here none

raised_used : (version : ℕ) (b : Bool) → ltb version LAST_VERSION ≡ b → 1 ≤ cond b (version + 1) version
raised_used version true is = omega arith
raised_used version false is = omega (arith, ltb-false version LAST_VERSION is)

module _ (job : ℕ) (layers : List LayerRow) where
  kept_step : (s : SlotRow) (b : Bool) → is_frame_of job s ≡ b → is_kept_slot layers s ≡ true → is_kept_slot (others job layers) (cond b (free_row s) s) ≡ true
  kept_step s true is kept =
      let both = and_both (leb s.version LAST_VERSION) (for_any s.frame (is_kept_frame layers)) kept in
      both_true (le-leb (raised s.version) LAST_VERSION (raised_raises.within s.version (leb-true s.version LAST_VERSION both.0))) refl
  kept_step s false is kept =
      let both = and_both (leb s.version LAST_VERSION) (for_any s.frame (is_kept_frame layers)) kept in
      both_true both.0 (for_any_then s.frame (is_kept_frame layers) (is_kept_frame (others job layers)) (λ x here had. frame_stays job layers x (frame_other job s.frame x is here) had) both.1)

  slots_kept : (slots : List SlotRow) → list_all (is_kept_slot layers) slots ≡ true → list_all (is_kept_slot (others job layers)) (map (freed_row job) slots) ≡ true
  slots_kept slots all =
      list_all-map (is_kept_slot (others job layers)) (freed_row job) slots
      ∙ list_all-weaker (is_kept_slot layers) (λ s. is_kept_slot (others job layers) (freed_row job s)) (λ s kept. kept_step s (is_frame_of job s) refl kept) slots all

  -- a frame that is there was there
  frame_was : (slots : List SlotRow) (i : ℕ) (t : SlotRow) → slice_get (map (freed_row job) slots) i ≡ Some t → (x : Frame) → t.frame ≡ Some x → (s : SlotRow) × (slice_get slots i ≡ Some s) × (s.frame ≡ Some x)
  frame_was slots =
      mapped_each (λ i t. (x : Frame) → t.frame ≡ Some x → (s : SlotRow) × (slice_get slots i ≡ Some s) × (s.frame ≡ Some x)) slots (freed_row job)
      (λ i s at.
      cond_each (λ (t : SlotRow). (x : Frame) → t.frame ≡ Some x → (r : SlotRow) × (slice_get slots i ≡ Some r) × (r.frame ≡ Some x)) (is_frame_of job s) (free_row s) s
      (λ x none. absurd (none-some x none)) (λ x is. (s, at, is)))

  once : (slots : List SlotRow) → EachOnce slots → EachOnce (map (freed_row job) slots)
  once slots each i k s t x y at_i is_x at_k is_y same =
      let first = frame_was slots i s at_i x is_x in
      let second = frame_was slots k t at_k y is_y in
      each i k first.0 second.0 x y first.1 first.2 second.1 second.2 same

  -- a slot that is freed has no frame of another job
  pub not_placed : (n layer position : ℕ) → eqb n job ≡ false → (o : Option Frame) → for_some o (λ (y : Frame). eqb y.job job) ≡ true → for_some o (is_placed n layer position) ≡ false
  not_placed n layer position other None is = refl
  not_placed n layer position other (Some x) is =
      false_from_ne_true (is_placed n layer position x)
      (λ h. false≢true (sym other ∙ subst (λ (m : ℕ). eqb m job ≡ true) (stands_at n layer position x h).job_is is))

  count_step : (n layer position : ℕ) → eqb n job ≡ false → (s : SlotRow) (b : Bool) → is_frame_of job s ≡ b → counts_frame n layer position (cond b (free_row s) s).frame ≡ counts_frame n layer position s.frame
  count_step n layer position other s true is =
      let none : ◌≡◌ {A = ℕ} (cond (for_some s.frame (is_placed n layer position)) 1 0) 0 = rw (not_placed n layer position other s.frame is) refl in
      sym none
  count_step n layer position other s false is = refl

  there : (slots : List SlotRow) → EachThere layers slots → EachThere (others job layers) (map (freed_row job) slots)
  there slots each n l at position within =
      let was = at_kept (is_other_layer job layers) layers n l at in
      let other = not-true (eqb l.job job) was.2 in
      let test = is_placed l.job l.place position in
      let some = there_counts test 0 slots (each was.0 l was.1 position within) in
      let same =
      zip_sum (λ (s t : SlotRow). counts_frame l.job l.place position t.frame ≡ counts_frame l.job l.place position s.frame) (λ (s : SlotRow). counts_frame l.job l.place position s.frame) (λ s t e. e) slots (map (freed_row job) slots)
      (zip_map (λ (s t : SlotRow). counts_frame l.job l.place position t.frame ≡ counts_frame l.job l.place position s.frame) (freed_row job) (λ s. count_step l.job l.place position other s (is_frame_of job s) refl) slots) in
      count_there test 0 (map (freed_row job) slots) (omega (arith, same, some))

freed_used : (job : ℕ) (s : SlotRow) → is_used s ≡ true → is_used (freed_row job s) ≡ true
freed_used job s used = cond_each (λ (t : SlotRow). is_used t ≡ true) (is_frame_of job s) (free_row s) s (lt-ltb 0 (raised s.version) (omega (arith, raised_used s.version (ltb s.version LAST_VERSION) refl))) used

ends_freed : (job : ℕ) (slots : List SlotRow) → EndsUsed slots → EndsUsed (map (freed_row job) slots)
ends_freed job [] ends = tt
ends_freed job (s ∷ []) ends = freed_used job s ends
ends_freed job (s ∷ (t ∷ ts)) ends = ends_freed job (t ∷ ts) ends

-- ---- jobs

module _ (job : ℕ) (slots : List SlotRow) (finish : ℕ) (jobs : List JobRow) where
  was_step : (m : ℕ) (x : JobRow) (b : Bool) → eqb x.job job ≡ b → slice_get jobs m ≡ Some x → is_pending_job (cond b (finished_row slots finish x) x) ≡ true → (slice_get jobs m ≡ Some (cond b (finished_row slots finish x) x)) × (eqb (cond b (finished_row slots finish x) x).job job ≡ false)
  was_step m x true is at pending = absurd (false≢true pending)
  was_step m x false is at pending = (at, is)

  -- a pending job was there, and is another
  pub pending_was : (n : ℕ) (j : JobRow) → slice_get (cut_finished (all_finished job slots finish jobs)) n ≡ Some j → is_pending_job j ≡ true → (m : ℕ) × (slice_get jobs m ≡ Some j) × (eqb j.job job ≡ false)
  pending_was n j at pending =
      let all = all_finished job slots finish jobs in
      let here = cut_each all (λ (js : List JobRow). (k : ℕ) → slice_get js k ≡ Some j → (m : ℕ) × (slice_get all m ≡ Some j)) (λ k in_some. let found = at_kept (stays all) all k j in_some in (found.0, found.1)) (λ k in_all. (k, in_all)) n at in
      let was =
      mapped_each (λ m k. is_pending_job k ≡ true → (slice_get jobs m ≡ Some k) × (eqb k.job job ≡ false)) jobs (finished_if job slots finish)
      (λ m x there. was_step m x (eqb x.job job) refl there) here.0 j here.1 pending in
      (here.0, was.0, was.1)

  -- another job that was pending is so
  pub pending_still : (n : ℕ) → eqb n job ≡ false → is_of_pending jobs n ≡ true → is_of_pending (cut_finished (all_finished job slots finish jobs)) n ≡ true
  pending_still n other there =
      let old = for_some_true (find (λ (j : JobRow). eqb j.job n) jobs) is_pending_job there in
      for_some-there (find (λ (j : JobRow). eqb j.job n) (cut_finished (all_finished job slots finish jobs))) is_pending_job old.0 (still_found job slots finish n jobs old.0 other old.1 old.2) old.2

-- ---- all of it

module _ (job : ℕ) (b : JobLists) (shows : ℕ) (pending : is_of_pending b.jobs job ≡ true) (kept : KeepsJobs b shows) where
  abbrev all : List JobRow
  all = all_finished job b.slots b.next_finish b.jobs

  abbrev one : JobRow → JobRow
  one = finished_if job b.slots b.next_finish

  abbrev among : IsAmong job b.jobs
  among = is_among job 1 b.jobs b.next_job kept.jobs_rise pending

  rising : IsRising job_key 1 (cut_finished all) b.next_job
  rising =
      let rise = rising-map job_key one (unchanged job b.slots b.next_finish job_key (λ j. refl)) 1 b.jobs b.next_job kept.jobs_rise in
      cut_each all (λ (js : List JobRow). IsRising job_key 1 js b.next_job) (rising-filter job_key (stays all) 1 all b.next_job rise) rise

  each_of : (test : JobRow → Bool) → list_all test all ≡ true → list_all test (cut_finished all) ≡ true
  each_of test holds = cut_each all (λ (js : List JobRow). list_all test js ≡ true) (list_all-filter test (stays all) all holds) holds

  formed : list_all (is_formed_job shows) all ≡ true
  formed =
      list_all-map (is_formed_job shows) one b.jobs
      ∙ (ap (λ (test : JobRow → Bool). list_all test b.jobs) (λ i j. unchanged job b.slots b.next_finish (is_formed_job shows) (λ k. refl) j i) ∙ kept.jobs_formed)

  differ : AllDiffer job_label (cut_finished all)
  differ =
      let names = subst (IsDistinct bytes_eq) (sym (map-map_kept job_label one (unchanged job b.slots b.next_finish job_label (λ j. refl)) b.jobs)) kept.jobs_differ in
      cut_each all (λ (js : List JobRow). AllDiffer job_label js) (differ-filter job_label bytes_eq (stays all) all names) names

  layered : (n : ℕ) (j : JobRow) → slice_get (cut_finished all) n ≡ Some j → is_pending_job j ≡ true → HasItsLayers (others job b.layers) j
  layered n j at is =
      let was = pending_was job b.slots b.next_finish b.jobs n j at is in
      let had = kept.jobs_layered was.0 j was.1 is in
      has_its (others job b.layers) (layers_of b.layers j.job) j (layers_stay job b.layers j.job was.2) had.places had.differ had.frames

  owned : list_all (λ (l : LayerRow). is_of_pending (cut_finished all) l.job) (others job b.layers) ≡ true
  owned =
      list_all-from_at (λ (l : LayerRow). is_of_pending (cut_finished all) l.job) (others job b.layers)
      (λ n l at.
      let was = at_kept (is_other_layer job b.layers) b.layers n l at in
      pending_still job b.slots b.next_finish b.jobs l.job (not-true (eqb l.job job) was.2) (list_all-at (λ (k : LayerRow). is_of_pending b.jobs k.job) b.layers was.0 l kept.layers_owned was.1))

  own_counts : list_any (is_left_of job) b.slots ≡ false → (n : ℕ) (j : JobRow) (c : Bool) → eqb j.job job ≡ c → slice_get b.jobs n ≡ Some j → has_its_counts (cond c (finished_row b.slots b.next_finish j) j) ≡ true
  own_counts none n j false is at = list_all-at has_its_counts b.jobs n j kept.jobs_counted at
  own_counts none n j true is at =
      let itself : j.job ≡ job = eqb-true j.job job is in
      let found = found_by_number 1 b.jobs b.next_job n j kept.jobs_rise at in
      let there : is_of_pending b.jobs j.job ≡ true = subst (λ (m : ℕ). is_of_pending b.jobs m ≡ true) (sym itself) pending in
      let its = kept.jobs_layered n j at (subst (λ (o : Option JobRow). for_some o is_pending_job ≡ true) found there) in
      let done = all_done j.job b.slots (subst (λ (m : ℕ). list_any (is_left_of m) b.slots ≡ false) (sym itself) none) in
      let frames = own_frames j.job b.slots b.layers its.places kept.slots_kept kept.frames_once kept.frames_there in
      eq-eqb (count_where j.job was_eaten b.slots + count_where j.job has_succeeded b.slots) j.frames (done ∙ (frames ∙ its.frames))

  -- each has its counts, where no frame of the job is left
  counted : list_any (is_left_of job) b.slots ≡ false → list_all has_its_counts all ≡ true
  counted none = list_all-from_at has_its_counts all (mapped_each (λ n j. has_its_counts j ≡ true) b.jobs one (λ n j at. own_counts none n j (eqb j.job job) refl at))

  pub jobs_finished : list_any (is_left_of job) b.slots ≡ false → KeepsJobs (with_finished job b) shows
  jobs_finished none =
      let fewer = one_fewer job b.slots b.next_finish b.jobs among in
      let more = one_more job b.slots b.next_finish b.jobs among in
      record {
        next_within = kept.next_within;
        finish_from = omega arith;
        finish_within = omega (arith, fewer, ap length (pending_kept all), kept.finish_within);
        finished_count = few_cut all (omega (arith, more, kept.finished_count));
        finishes_within = each_of (has_its_finish (b.next_finish + 1)) (finish_known job b.slots b.next_finish kept.finish_from b.jobs kept.finishes_within);
        finishes_differ = finishes_kept all (finishes_apart job b.slots b.next_finish b.jobs among kept.finishes_within kept.finishes_differ);
        jobs_counted = each_of has_its_counts (counted none);
        jobs_rise = rising;
        jobs_formed = each_of (is_formed_job shows) formed;
        jobs_differ = differ;
        jobs_layered = layered;
        layers_rise = rising-filter layer_key (is_other_layer job b.layers) 0 b.layers (MOST_LAYERS * b.next_job) kept.layers_rise;
        layers_formed = list_all-filter is_formed_layer (is_other_layer job b.layers) b.layers kept.layers_formed;
        layers_owned = owned;
        slot_count = omega (arith, length-map b.slots (freed_row job), kept.slot_count);
        slots_kept = slots_kept job b.layers b.slots kept.slots_kept;
        frames_once = once job b.layers b.slots kept.frames_once;
        frames_there = there job b.layers b.slots kept.frames_there;
        ends_used = ends_freed job b.slots kept.ends_used;
      }
