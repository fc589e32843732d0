-- The ready jobs when a slot's row is set, and when a job is placed.
use Rattle.std.proofs.Common.{◌≡◌, ℕ, zero, suc, ◌+◌, ◌<◌, ◌≤◌, Bool, true, false, eqb, ltb, List, [], ◌∷◌, ◌++◌, length, Option, Some, None, option_map, refl, sym, ap, ◌∙◌, arith, length-append}
use Rattle.std.specs.List.{find, position_or_len, slice_get}
use Rattle.std.proofs.lemmas.Bool.{eq-eqb, ne_eqb, eqb-true, eqb-false, lt-ltb, le-leb}
use Rattle.std.proofs.lemmas.List.Folds.{find_at}
use Rattle.std.proofs.lemmas.Option.{none-some, same_Some, slice_get-map}
use Rattle.farm_types.specs.declared.job.JobSpec.{JobSpec}
use Rattle.farm_types.specs.declared.rows.JobRow.{JobRow}
use Rattle.farm_types.specs.declared.slot_row.Frame.{Frame}
use Rattle.farm_types.specs.declared.slot_row.SlotRow.{SlotRow}
use Rattle.farm_types.specs.declared.states.FrameState.{FrameState}
use Rattle.farm_types.specs.declared.states.FrameState.TheVariants.{Waiting}
use Rattle.farm_types.specs.Booking.{is_pending}
use Rattle.farm_types.specs.Farm.{for_some, changed_at}
use Rattle.farm_types.specs.Jobs.{JobLists, frames_of, job_row, place_frames}
use Rattle.farm_types.specs.SpecLimits.{JobKeepsLimits}
use Rattle.farm_types.specs.declared.limits.TheConstants.{MOST_PRIORITY}
use Rattle.farm_types.specs.Rising.{IsRising, job_key}
use Rattle.farm_types.proofs.Lists.{found_is, list_all-at}
use Rattle.job_entries.specs.declared.counts.Counts.{Counts}
use Rattle.job_book.specs.Book.{count_in, counts_of, with_new_job}
use Rattle.job_book.specs.Inside.{IsBook, counts_for}
use Rattle.job_book.specs.Ready.{CanBeReady, CanChange, KeepsReady, changed_ready, has_priority, ready_key, waits}
use Rattle.job_index.specs.Keys.{put_key}
use Rattle.job_book.proofs.InState.{IsInState, counts_other, with_row}
use Rattle.job_book.proofs.PlacementLemmas.Placed.{count_placed, new_job_counts_none}
use Rattle.job_book.proofs.PlacementLemmas.PlacedLayers.{slice_get-back}
use Rattle.job_book.proofs.ReadyLists.{can_be_ready, more_ready, ready_after, same_ready}
use Rattle.job_index.specs.declared.limits.TheConstants.{MOST_JOBS}
use Rattle.job_index.specs.declared.ready_jobs.TheConstants.{JOB_NUMBERS}

find_none_step : (b : Bool) (test : JobRow → Bool) (j : JobRow) (js : List JobRow) → test j ≡ b → find test (j ∷ js) ≡ None → (test j ≡ false) × (find test js ≡ None)
find_none_step true test j js is none = absurd (none-some j (sym none ∙ rw is refl))
find_none_step false test j js is none = (is, rw is at none)

-- where none is found, none passes
find_none : (test : JobRow → Bool) (js : List JobRow) (k : ℕ) (l : JobRow) → find test js ≡ None → slice_get js k ≡ Some l → test l ≡ false
find_none test [] k l none there = absurd (none-some l there)
find_none test (j ∷ js) zero l none there = ap test (sym (same_Some j l there)) ∙ (find_none_step (test j) test j js refl none).0
find_none test (j ∷ js) (suc k) l none there = find_none test js k l (find_none_step (test j) test j js refl none).1 there

-- what the counts at a job's place say of its waiting frames
abbrev pub said : Option Counts → Bool
said o = for_some o (λ (c : Counts). ltb 0 c.waiting)

said_is : (jobs : List JobRow) (slots : List SlotRow) (counts : List Counts) (place : ℕ) (j : JobRow) → counts ≡ counts_for jobs slots → slice_get jobs place ≡ Some j → said (slice_get counts place) ≡ waits slots j.job
said_is jobs slots counts place j are at =
    ap (λ (cs : List Counts). said (slice_get cs place)) are ∙ ap said (slice_get-map (λ (r : JobRow). counts_of r.job slots) jobs place ∙ ap (option_map (λ (r : JobRow). counts_of r.job slots)) at)

module _ (jobs : List JobRow) (high : ℕ) (most : high ≤ JOB_NUMBERS) (rise : IsRising job_key 0 jobs high) (few : length jobs < MOST_JOBS) (ready : List (List ℕ)) where
  module _ (slots : List SlotRow) (keeps : KeepsReady jobs slots ready) (counts : List Counts) (are : counts ≡ counts_for jobs slots) (place : ℕ) (begun : (j : JobRow) → slice_get jobs place ≡ Some j → is_pending j.state ≡ true) (had has : Bool) (was : had ≡ said (slice_get counts place)) where
    can_by : (o : Option JobRow) → slice_get jobs place ≡ o → CanChange had has ready o
    can_by None at = tt
    can_by (Some j) at = (
      list_all-at has_priority jobs place j keeps.priorities at,
      λ none _. can_be_ready jobs high most rise place j at (begun j at) slots slots (λ job far. refl) ready keeps few (sym (said_is jobs slots counts place j are at) ∙ sym was ∙ none),
    )

    -- a job that becomes ready stands in no list yet
    pub can_change : CanChange had has ready (slice_get jobs place)
    can_change = can_by (slice_get jobs place) refl

    module _ (i : ℕ) (row : SlotRow) (x : Frame) (state : FrameState) (r : IsInState slots i row x state) (stands : place ≡ position_or_len (λ (j : JobRow). eqb j.job x.job) jobs)
        (later : List Counts) (now_are : later ≡ counts_for jobs (with_row slots i row)) (now : has ≡ said (slice_get later place)) where
      abbrev new : List SlotRow
      new = with_row slots i row

      apart_same : (job : ℕ) → (job ≡ x.job → ⊥) → waits new job ≡ waits slots job
      apart_same job far = ap (λ (c : Counts). ltb 0 c.waiting) (counts_other slots i row x state r job (ne_eqb x.job job (λ e. far (sym e))))

      found : (o : Option JobRow) → slice_get jobs place ≡ o → find (λ (j : JobRow). eqb j.job x.job) jobs ≡ o
      found o here = find_at (λ (j : JobRow). eqb j.job x.job) jobs ∙ ap (slice_get jobs) (sym stands) ∙ here

      kept_by : (o : Option JobRow) → slice_get jobs place ≡ o → KeepsReady jobs new (changed_ready had has ready o)
      kept_by None here = same_ready jobs slots new ready (λ k l there. apart_same l.job (eqb-false l.job x.job (find_none (λ (j : JobRow). eqb j.job x.job) jobs k l (found None here) there))) keeps
      kept_by (Some j) here =
          let same : j.job ≡ x.job = eqb-true j.job x.job (found_is (λ (r : JobRow). eqb r.job x.job) jobs j (found (Some j) here)) in
          ready_after jobs high most rise place j here (begun j here) slots new (λ job far. apart_same job (λ e. far (e ∙ sym same))) ready keeps had has
          (sym (said_is jobs slots counts place j are here) ∙ sym was) (sym (said_is jobs new later place j now_are here) ∙ sym now)

      pub in_state_ready : KeepsReady jobs new (changed_ready had has ready (slice_get jobs place))
      in_state_ready = kept_by (slice_get jobs place) refl

-- a job is placed
module _ (b : JobLists) (show : ℕ) (layer_limits : List (Option ℕ)) (spec : JobSpec) (limits : JobKeepsLimits spec) (ok : IsBook b) (placed : IsBook (with_new_job b show layer_limits spec)) (few : length b.jobs + 1 < MOST_JOBS) (ready : List (List ℕ)) (keeps : KeepsReady b.jobs b.slots ready) where
  abbrev row : JobRow
  row = job_row b.next_job show spec

  abbrev jobs : List JobRow
  jobs = b.jobs ++ row ∷ []

  abbrev slots : List SlotRow
  slots = place_frames b.slots (frames_of b.next_job 0 spec.layers)

  fresh : waits b.slots b.next_job ≡ false
  fresh = ap (ltb 0) (new_job_counts_none b.slots b.next_job b.next_job Waiting (omega arith) ok.frames_below)

  pub has_its_priority : has_priority row ≡ true
  has_its_priority = le-leb spec.priority MOST_PRIORITY limits.priority_within.1

  more : KeepsReady jobs b.slots ready
  more = more_ready b.jobs row b.slots ready has_its_priority fresh keeps

  there : slice_get jobs (length b.jobs) ≡ Some row
  there = slice_get-back b.jobs (row ∷ []) (length b.jobs) 0 (omega arith)

  others : (job : ℕ) → (job ≡ b.next_job → ⊥) → waits slots job ≡ waits b.slots job
  others job far =
      let apart : eqb b.next_job job ≡ false = ne_eqb b.next_job job (λ e. far (sym e)) in
      let e = rw apart at (count_placed b.slots b.next_job spec.layers job Waiting) in
      let same : count_in job Waiting slots ≡ count_in job Waiting b.slots = omega (arith, e) in
      ap (ltb 0) same

  begun : waits slots b.next_job ≡ true
  begun =
      let itself : eqb b.next_job b.next_job ≡ true = eq-eqb b.next_job b.next_job refl in
      let e = rw itself at (count_placed b.slots b.next_job spec.layers b.next_job Waiting) in
      lt-ltb 0 (count_in b.next_job Waiting slots) (omega (arith, e, limits.frames_within.0))

  most : b.next_job + 1 ≤ JOB_NUMBERS
  most = omega (arith, placed.next_within)

  pub placed_can : CanBeReady row ready
  placed_can = can_be_ready jobs (b.next_job + 1) most placed.jobs_rise (length b.jobs) row there refl b.slots b.slots (λ job far. refl) ready more (omega (arith, few, length-append b.jobs (row ∷ []))) fresh

  pub placed_ready : KeepsReady jobs slots (changed_at ready show (put_key (ready_key row)))
  placed_ready = ready_after jobs (b.next_job + 1) most placed.jobs_rise (length b.jobs) row there refl b.slots slots others ready more false true fresh begun
