-- What a lost attempt, a completion and a booking do to a slot keeps its frame where it is.
use Rattle.std.proofs.Common.{◌≡◌, ℕ, ◌+◌, ◌≤◌, ◌<◌, Bool, true, false, cond, ◌&&◌, ◌||◌, not, leb, ltb, eqb, List, Option, Some, None, refl, arith, option_map}
use Rattle.std.specs.List.{find, list_all, slice_get}
use Rattle.std.specs.Option.{is_some}
use Rattle.std.specs.Ordering.{int_eq}
use Rattle.std.specs.Cmp.Derive.{both_true}
use Rattle.std.proofs.lemmas.Bool.{leb-true, leb-false, le-leb, lt-ltb, or_right}
use Rattle.farm_types.specs.declared.attempt.Exit.{Exit}
use Rattle.farm_types.specs.declared.attempt.ProcRow.{ProcRow}
use Rattle.farm_types.specs.declared.rows.JobRow.{JobRow}
use Rattle.farm_types.specs.declared.rows.LayerRow.{LayerRow}
use Rattle.farm_types.specs.declared.slot_row.Frame.{Frame}
use Rattle.farm_types.specs.declared.slot_row.SlotRow.{SlotRow}
use Rattle.farm_types.specs.declared.states.FrameState.TheVariants as frame_state
use Rattle.farm_types.specs.declared.verdict.Verdict.{Verdict}
use Rattle.farm_types.specs.declared.verdict.Verdict.TheVariants as verdict
use Rattle.farm_types.specs.declared.limits.TheConstants.{LAST_VERSION, MOST_RETRIES}
use Rattle.farm_types.specs.Farm.{Farm, for_some, job_at, is_placed, for_any, layer_in}
use Rattle.farm_types.specs.Kept.{is_formed_job, is_kept_frame, is_setup}
use Rattle.farm_types.specs.Lost.{lost_row, runs_on}
use Rattle.farm_types.specs.Ranges.{range_numbers}
use Rattle.farm_types.specs.Step.{booked_row, ended_row, judged, verdict_for}
use Rattle.farm_types.specs.Verdict.{verdict_of}
use Rattle.farm_types.proofs.Lists.{and_both, find_passes}
use Rattle.farm_types.proofs.Passes.{cond_each}
use Rattle.farm_law.proofs.KeptJobsFormed.{job_formed}
use Rattle.farm_law.proofs.KeptJobsSlots.{SlotKeeps, slot_keeps}

-- the frame's number is the one at its position in its layer's range
abbrev pub has_number : List LayerRow → Frame → Bool
has_number layers x = for_some (layer_in layers x.job x.layer) (λ l. for_some (slice_get (range_numbers l.range) x.position) (λ number. int_eq number x.number))

-- the parts of a kept frame
pub record FrameKept (layers : List LayerRow) (x : Frame) : Type 0 where
  pub number : has_number layers x ≡ true
  pub retries : x.retries ≤ MOST_RETRIES
  pub state : not (is_setup x.state) ≡ true

-- the parts of the test
pub frame_kept : (layers : List LayerRow) (x : Frame) → is_kept_frame layers x ≡ true → FrameKept layers x
frame_kept layers x h =
    let both = and_both (has_number layers x) (leb x.retries MOST_RETRIES && not (is_setup x.state)) h in
    let rest = and_both (leb x.retries MOST_RETRIES) (not (is_setup x.state)) both.1 in
    record { number = both.0; retries = leb-true x.retries MOST_RETRIES rest.0; state = rest.1 }

-- and back
pub keeps_frame : (layers : List LayerRow) (x : Frame) → FrameKept layers x → is_kept_frame layers x ≡ true
keeps_frame layers x h = both_true h.number (both_true (le-leb x.retries MOST_RETRIES h.retries) h.state)

-- ---- a lost attempt

module _ (layers : List LayerRow) where
  -- the frame waits again where it was
  waits_kept : (frame : Option Frame) → for_any frame (is_kept_frame layers) ≡ true → for_any (option_map (λ (x : Frame). record x { state = frame_state.Waiting }) frame) (is_kept_frame layers) ≡ true
  waits_kept None h = refl
  waits_kept (Some x) h =
      let had = frame_kept layers x h in
      keeps_frame layers (record x { state = frame_state.Waiting }) (record { number = had.number; retries = had.retries; state = refl })

  waits_places : (frame : Option Frame) (job layer position : ℕ) → for_some (option_map (λ (x : Frame). record x { state = frame_state.Waiting }) frame) (is_placed job layer position) ≡ for_some frame (is_placed job layer position)
  waits_places None job layer position = refl
  waits_places (Some x) job layer position = refl

-- a slot with a changed frame is used as before
mapped_used : (change : Frame → Frame) (frame : Option Frame) (later : Bool) → (is_some frame || later) ≡ true → (is_some (option_map change frame) || later) ≡ true
mapped_used change None later h = h
mapped_used change (Some x) later h = refl

lost_keeps : (layers : List LayerRow) (s : SlotRow) → SlotKeeps layers s (lost_row s)
lost_keeps layers s =
    record {
      places = waits_places layers s.frame;
      kept = λ h.
          let both = and_both (leb s.version LAST_VERSION) (for_any s.frame (is_kept_frame layers)) h in
          both_true both.0 (waits_kept layers s.frame both.1);
      used = mapped_used (λ (x : Frame). record x { state = frame_state.Waiting }) s.frame (ltb 0 s.version);
    }

-- a slot, by whether its attempt is lost
pub lose_keeps : (layers : List LayerRow) (test : ℕ → Bool) (s : SlotRow) → SlotKeeps layers s (cond (runs_on test s) (lost_row s) s)
lose_keeps layers test s = cond_each (SlotKeeps layers s) (runs_on test s) (lost_row s) s (lost_keeps layers s) (slot_keeps layers s)

-- ---- a completion

-- retries that a verdict gives are within the most
abbrev HasRetries : Verdict → Type 0
HasRetries (verdict.Waiting retries) = retries ≤ MOST_RETRIES
HasRetries v = Unit {0}

-- a retry more only below the most
last_retries : (b : Bool) (retries most : ℕ) → leb most retries ≡ b → most ≤ MOST_RETRIES → HasRetries (cond b verdict.Dead (verdict.Waiting (retries + 1)))
last_retries true retries most is within = tt
last_retries false retries most is within = omega (arith, leb-false most retries is)

-- each verdict
verdict_retries : (exit : Exit) (retries most : ℕ) (eats : Bool) → retries ≤ MOST_RETRIES → most ≤ MOST_RETRIES → HasRetries (verdict_of exit retries most eats)
verdict_retries exit retries most eats had within =
    cond_each HasRetries (eqb exit.status 0 && eqb exit.signal 0) verdict.Succeeded _ tt
    (cond_each HasRetries (eqb exit.status 286) (verdict.Waiting retries) _ had
    (cond_each HasRetries eats verdict.Eaten _ tt
    (cond_each HasRetries (eqb exit.status 256) verdict.Dead _ tt
    (last_retries (leb most retries) retries most refl within))))

module _ (layers : List LayerRow) (jobs : List JobRow) (shows : ℕ) (formed : list_all (is_formed_job shows) jobs ≡ true) (exit : Exit) where
  for_retries : (x : Frame) (o : Option JobRow) → x.retries ≤ MOST_RETRIES → ((j : JobRow) → o ≡ Some j → j.max_retries ≤ MOST_RETRIES) → HasRetries (verdict_for exit x o)
  for_retries x None had within = verdict_retries exit x.retries 0 false had (omega arith)
  for_retries x (Some j) had within = verdict_retries exit x.retries j.max_retries j.auto_eat had (within j refl)

  found_retries : (x : Frame) → x.retries ≤ MOST_RETRIES → HasRetries (verdict_for exit x (find (λ (j : JobRow). eqb j.job x.job) jobs))
  found_retries x had =
      for_retries x (find (λ (j : JobRow). eqb j.job x.job) jobs) had
      (λ j at. (job_formed shows j (find_passes (λ (k : JobRow). eqb k.job x.job) (is_formed_job shows) jobs j formed at)).retries)

-- a judged frame is kept
judged_kept : (layers : List LayerRow) (x : Frame) (v : Verdict) → HasRetries v → FrameKept layers x → FrameKept layers (judged x v)
judged_kept layers x verdict.Succeeded has had = record { number = had.number; retries = had.retries; state = refl }
judged_kept layers x (verdict.Waiting retries) has had = record { number = had.number; retries = has; state = refl }
judged_kept layers x verdict.Eaten has had = record { number = had.number; retries = had.retries; state = refl }
judged_kept layers x verdict.Dead has had = record { number = had.number; retries = had.retries; state = refl }

-- it stands where it stood
judged_placed : (job layer position : ℕ) (x : Frame) (v : Verdict) → is_placed job layer position (judged x v) ≡ is_placed job layer position x
judged_placed job layer position x verdict.Succeeded = refl
judged_placed job layer position x (verdict.Waiting retries) = refl
judged_placed job layer position x verdict.Eaten = refl
judged_placed job layer position x verdict.Dead = refl

module _ (layers : List LayerRow) (verdict_on : Frame → Verdict) where
  judged_places : (frame : Option Frame) (job layer position : ℕ) → for_some (option_map (λ x. judged x (verdict_on x)) frame) (is_placed job layer position) ≡ for_some frame (is_placed job layer position)
  judged_places None job layer position = refl
  judged_places (Some x) job layer position = judged_placed job layer position x (verdict_on x)

  judge_kept : ((x : Frame) → x.retries ≤ MOST_RETRIES → HasRetries (verdict_on x)) → (frame : Option Frame) → for_any frame (is_kept_frame layers) ≡ true → for_any (option_map (λ x. judged x (verdict_on x)) frame) (is_kept_frame layers) ≡ true
  judge_kept within None h = refl
  judge_kept within (Some x) h =
      let had = frame_kept layers x h in
      keeps_frame layers (judged x (verdict_on x)) (judged_kept layers x (verdict_on x) (within x had.retries) had)

-- a slot whose attempt ended
pub ended_keeps : (f : Farm) (exit : Exit) (shows : ℕ) → list_all (is_formed_job shows) f.jobs ≡ true → (s : SlotRow) → SlotKeeps f.layers s (ended_row f exit s)
ended_keeps f exit shows formed s =
    record {
      places = judged_places f.layers (λ x. verdict_for exit x (job_at f x.job)) s.frame;
      kept = λ h.
          let both = and_both (leb s.version LAST_VERSION) (for_any s.frame (is_kept_frame f.layers)) h in
          both_true both.0 (judge_kept f.layers (λ x. verdict_for exit x (job_at f x.job)) (found_retries f.layers f.jobs shows formed exit) s.frame both.1);
      used = mapped_used (λ x. judged x (verdict_for exit x (job_at f x.job))) s.frame (ltb 0 s.version);
    }

-- ---- a booking

module _ (layers : List LayerRow) where
  -- a frame that runs is kept
  runs_kept : (frame : Option Frame) → for_any frame (is_kept_frame layers) ≡ true → for_any (option_map (λ (x : Frame). record x { state = frame_state.Running }) frame) (is_kept_frame layers) ≡ true
  runs_kept None h = refl
  runs_kept (Some x) h =
      let had = frame_kept layers x h in
      keeps_frame layers (record x { state = frame_state.Running }) (record { number = had.number; retries = had.retries; state = refl })

  runs_places : (frame : Option Frame) (job layer position : ℕ) → for_some (option_map (λ (x : Frame). record x { state = frame_state.Running }) frame) (is_placed job layer position) ≡ for_some frame (is_placed job layer position)
  runs_places None job layer position = refl
  runs_places (Some x) job layer position = refl

-- a slot that is booked below the last version
pub booked_keeps : (layers : List LayerRow) (p : ProcRow) (s : SlotRow) → p.version ≡ s.version + 1 → s.version < LAST_VERSION → SlotKeeps layers s (booked_row p s)
booked_keeps layers p s above below =
    record {
      places = runs_places layers s.frame;
      kept = λ h.
          let both = and_both (leb s.version LAST_VERSION) (for_any s.frame (is_kept_frame layers)) h in
          both_true (le-leb p.version LAST_VERSION (omega (arith, above, below))) (runs_kept layers s.frame both.1);
      used = λ h. or_right (is_some (option_map (λ (x : Frame). record x { state = frame_state.Running }) s.frame)) (ltb 0 p.version) (lt-ltb 0 p.version (omega (arith, above)));
    }
