-- What becomes of a slot by each change of rows.
use Rattle.std.proofs.Common.{◌≡◌, ℕ, ◌+◌, ◌<◌, ◌≤◌, Bool, true, false, cond, Option, Some, None, refl, sym, ap, subst, ◌∙◌, inl, inr, arith, option_map}
use Rattle.std.specs.Prelude.{is_some}
use Rattle.std.proofs.lemmas.Bool.{false≢true}
use Rattle.std.proofs.lemmas.Option.{none-some}
use Rattle.farm_types.specs.declared.attempt.Exit.{Exit}
use Rattle.farm_types.specs.declared.attempt.ProcRow.{ProcRow}
use Rattle.farm_types.specs.declared.limits.TheConstants.{LAST_VERSION}
use Rattle.farm_types.specs.declared.slot_row.Frame.{Frame}
use Rattle.farm_types.specs.declared.slot_row.SlotRow.{SlotRow}
use Rattle.farm_types.specs.declared.states.FrameState.{FrameState}
use Rattle.farm_types.specs.declared.states.FrameState.TheVariants.{Waiting, Setup, Running, Succeeded, Depend, Dead, Eaten}
use Rattle.farm_types.specs.declared.verdict.Verdict.{Verdict}
use Rattle.farm_types.specs.declared.verdict.Verdict.TheVariants as verdict
use Rattle.farm_types.specs.Booking.{is_waiting, version_of}
use Rattle.farm_types.specs.DependActs.{is_running}
use Rattle.farm_types.specs.Farm.{Farm, job_at}
use Rattle.farm_types.specs.Lost.{lost_row, runs_on}
use Rattle.farm_types.specs.Operators.{is_left_of, killed_row, retried_row, stopped_row}
use Rattle.farm_types.specs.Run.{HasItsAttempt}
use Rattle.farm_types.specs.Settle.{blocked_row, in_state, raised}
use Rattle.farm_types.specs.Step.{booked_row, ended_row, judged, verdict_for}
use Rattle.farm_types.proofs.Lists.{for_some_true}
use Rattle.farm_law.proofs.Finished.{raised_above}
use Rattle.farm_law.proofs.Follows.{RaisesWithin, raised_raises}
use Rattle.depend_law.proofs.Filled.{Fills, has_frame}
use Rattle.depend_law.proofs.Turns.{on_frame, on_slot, runs_frame}
use Rattle.entry_law.proofs.SlotGoes.{SlotGoes, belongs, belongs_stays, frame_belongs, goes_same, row_goes, slot_belongs}

-- ---- states

state_apart : (state : FrameState) → is_running state ≡ true → is_waiting state ≡ true → ⊥
state_apart Running r w = false≢true w
state_apart Waiting r w = false≢true r
state_apart Setup r w = false≢true r
state_apart Succeeded r w = false≢true r
state_apart Depend r w = false≢true r
state_apart Dead r w = false≢true r
state_apart Eaten r w = false≢true r

-- a frame that runs doesn't wait
pub frame_apart : (frame : Option Frame) → on_frame is_running frame ≡ true → on_frame is_waiting frame ≡ true → ⊥
frame_apart None r w = false≢true w
frame_apart (Some x) r w = state_apart x.state r w

-- a frame in another state
pub in_other : (state : FrameState) (test : FrameState → Bool) → test state ≡ false → (change : Frame → Frame)
    → ((x : Frame) → (change x).state ≡ state) → (frame : Option Frame)
    → on_frame test (option_map change frame) ≡ true → ⊥
in_other state test fails change is None h = false≢true h
in_other state test fails change is (Some x) h = false≢true (sym fails ∙ (ap test (sym (is x)) ∙ h))

judged_rests : (x : Frame) (v : Verdict) → is_running (judged x v).state ≡ true → ⊥
judged_rests x verdict.Succeeded h = false≢true h
judged_rests x (verdict.Waiting retries) h = false≢true h
judged_rests x verdict.Eaten h = false≢true h
judged_rests x verdict.Dead h = false≢true h

judged_belongs : (x : Frame) (v : Verdict) → belongs (judged x v) ≡ belongs x
judged_belongs x verdict.Succeeded = refl
judged_belongs x (verdict.Waiting retries) = refl
judged_belongs x verdict.Eaten = refl
judged_belongs x verdict.Dead = refl

ended_rests : (verdict : Frame → Verdict) (frame : Option Frame) → on_frame is_running (option_map (λ x. judged x (verdict x)) frame) ≡ true → ⊥
ended_rests verdict None h = false≢true h
ended_rests verdict (Some x) h = judged_rests x (verdict x) h

-- ---- one row

module _ (W B : Type 0) where
  -- an attempt that is lost
  lost_goes : (s : SlotRow) → on_frame is_running s.frame ≡ true → SlotGoes W B (Some s) (Some (lost_row s))
  lost_goes s running =
      row_goes W B s (lost_row s) (omega arith) (λ w h below. absurd (frame_apart s.frame running h))
      (λ h. absurd (in_other Waiting is_running refl (λ (x : Frame). record x { state = Waiting }) (λ x. refl) s.frame h))
      (belongs_stays (λ (x : Frame). record x { state = Waiting }) (λ x. refl) s.frame)

  lose_goes : (test : ℕ → Bool) (slot : ℕ) (s : SlotRow) (b : Bool) → runs_on test s ≡ b → HasItsAttempt slot s.version s.frame s.proc
      → SlotGoes W B (Some s) (Some (cond b (lost_row s) s))
  lose_goes test slot s false is has = goes_same W B (Some s)
  lose_goes test slot s true is has =
      let p = for_some_true s.proc (λ (q : ProcRow). test q.host) is in
      lost_goes s (runs_frame slot s.version s.frame s.proc p.0 p.1 has)

  pub lost_row_goes : (test : ℕ → Bool) (slot : ℕ) (s : SlotRow) → HasItsAttempt slot s.version s.frame s.proc
      → SlotGoes W B (Some s) (Some (cond (runs_on test s) (lost_row s) s))
  lost_row_goes test slot s has = lose_goes test slot s (runs_on test s) refl has

  -- one that ends
  pub ended_row_goes : (f : Farm) (exit : Exit) (s : SlotRow) → on_frame is_running s.frame ≡ true → SlotGoes W B (Some s) (Some (ended_row f exit s))
  ended_row_goes f exit s running =
      let v = λ (x : Frame). verdict_for exit x (job_at f x.job) in
      row_goes W B s (ended_row f exit s) (omega arith) (λ w h below. absurd (frame_apart s.frame running h))
      (λ h. absurd (ended_rests v s.frame h))
      (belongs_stays (λ (x : Frame). judged x (v x)) (λ x. judged_belongs x (v x)) s.frame)

  -- one that begins
  pub booked_row_goes : (p : ProcRow) (s : SlotRow) → p.version ≡ s.version + 1 → B → SlotGoes W B (Some s) (Some (booked_row p s))
  booked_row_goes p s above booked =
      row_goes W B s (booked_row p s) (omega (arith, above)) (λ w h below. omega (arith, above)) (λ h. booked)
      (belongs_stays (λ (x : Frame). record x { state = Running }) (λ x. refl) s.frame)

  raised_if : (waited : Bool) (version : ℕ) → version ≤ cond waited (raised version) version
  raised_if true version = raised_raises.rises version
  raised_if false version = omega arith

  -- a frame that is killed or eaten
  pub stopped_row_goes : (state : FrameState) → is_running state ≡ false → (s : SlotRow) → SlotGoes W B (Some s) (Some (stopped_row state s))
  stopped_row_goes state rests s =
      row_goes W B s (stopped_row state s) (raised_if (on_frame is_waiting s.frame) s.version)
      (λ w h below. let rose : cond (on_frame is_waiting s.frame) (raised s.version) s.version ≡ s.version + 1 = rw h (raised_above s.version below) in omega (arith, rose))
      (λ h. absurd (in_other state is_running rests (λ (x : Frame). record x { state = state }) (λ x. refl) s.frame h))
      (belongs_stays (λ (x : Frame). record x { state = state }) (λ x. refl) s.frame)

  killed_goes : (s : SlotRow) (b : Bool) → SlotGoes W B (Some s) (Some (cond b (stopped_row Eaten s) s))
  killed_goes s true = stopped_row_goes Eaten refl s
  killed_goes s false = goes_same W B (Some s)

  pub killed_row_goes : (job : ℕ) (s : SlotRow) → SlotGoes W B (Some s) (Some (killed_row job s))
  killed_row_goes job s = killed_goes s (is_left_of job s)

  -- one that is retried, where it didn't wait
  pub retried_row_goes : (s : SlotRow) → (on_frame is_waiting s.frame ≡ true → ⊥) → SlotGoes W B (Some s) (Some (retried_row s))
  retried_row_goes s rests =
      row_goes W B s (retried_row s) (omega arith) (λ w h below. absurd (rests h))
      (λ h. absurd (in_other Waiting is_running refl (λ (x : Frame). record x { state = Waiting; retries = 0 }) (λ x. refl) s.frame h))
      (belongs_stays (λ (x : Frame). record x { state = Waiting; retries = 0 }) (λ x. refl) s.frame)

  -- a blocked frame that opens
  pub opened_row_goes : (s : SlotRow) → (on_frame is_waiting s.frame ≡ true → ⊥) → SlotGoes W B (Some s) (Some (in_state Waiting s))
  opened_row_goes s blocked =
      row_goes W B s (in_state Waiting s) (omega arith) (λ w h below. absurd (blocked h))
      (λ h. absurd (in_other Waiting is_running refl (λ (x : Frame). record x { state = Waiting }) (λ x. refl) s.frame h))
      (belongs_stays (λ (x : Frame). record x { state = Waiting }) (λ x. refl) s.frame)

  -- a frame that is blocked; where it is said of frames that wait, the version rises
  pub blocked_row_goes : (change : ℕ → ℕ) → RaisesWithin change → ((version : ℕ) → W → version < LAST_VERSION → version < change version) → (s : SlotRow)
      → SlotGoes W B (Some s) (Some (blocked_row change s))
  blocked_row_goes change raises rises s =
      row_goes W B s (blocked_row change s) (raises.rises s.version) (λ w h below. rises s.version w below)
      (λ h. absurd (in_other Depend is_running refl (λ (x : Frame). record x { state = Depend }) (λ x. refl) s.frame h))
      (belongs_stays (λ (x : Frame). record x { state = Depend }) (λ x. refl) s.frame)

  -- ---- a slot that is filled

  pub without_frame : (o : Option SlotRow) → has_frame o ≡ false → slot_belongs o ≡ None
  without_frame None empty = refl
  without_frame (Some s) empty = without s.frame empty
    where
      without : (frame : Option Frame) → is_some frame ≡ false → frame_belongs frame ≡ None
      without None empty = refl
      without (Some x) empty = absurd (false≢true (sym empty))

  pub empty_waits : (o : Option SlotRow) → has_frame o ≡ false → on_slot is_waiting o ≡ true → ⊥
  empty_waits None empty h = false≢true h
  empty_waits (Some s) empty h = waits_none s.frame empty h
    where
      waits_none : (frame : Option Frame) → is_some frame ≡ false → on_frame is_waiting frame ≡ true → ⊥
      waits_none None empty h = false≢true h
      waits_none (Some x) empty h = false≢true (sym empty)

  slot_apart : (o : Option SlotRow) → on_slot is_running o ≡ true → on_slot is_waiting o ≡ true → ⊥
  slot_apart None r w = false≢true r
  slot_apart (Some s) r w = frame_apart s.frame r w

  pub fills_goes : (o n : Option SlotRow) → version_of o ≤ version_of n → Fills o n → SlotGoes W B o n
  fills_goes o n version (inl e) = subst (SlotGoes W B o) (sym e) (goes_same W B o)
  fills_goes o n version (inr new) =
      record {
        version = version;
        waits = λ w h below. absurd (empty_waits o new.0 h);
        runs = λ h. absurd (slot_apart n h new.1);
        frame = λ p at. absurd (none-some p (sym (without_frame o new.0) ∙ at));
      }
