-- What becomes of a slot by each act, before what follows of it.
use Rattle.std.proofs.Common.{◌≡◌, ◌≢◌, ℕ, ◌+◌, ◌≤◌, Bool, true, false, cond, eqb, List, [], ◌∷◌, Option, Some, None, refl, sym, ap, subst, ◌∙◌, ◌⊎◌, inl, inr, arith}
use Rattle.std.specs.List.{slice_get}
use Rattle.std.specs.Prelude.{option_and_then}
use Rattle.std.proofs.lemmas.Bool.{false≢true}
use Rattle.std.proofs.lemmas.Option.{none-some, same_Some}
use Rattle.farm_types.specs.declared.attempt.DoneItem.{DoneItem}
use Rattle.farm_types.specs.declared.boot.BootLine.{BootLine}
use Rattle.farm_types.specs.declared.entry.Act.{Act}
use Rattle.farm_types.specs.declared.entry.Act.TheVariants.{Sub, Limit, Boot, Heard, Submit, Pause, KillJob, KillFrame, EatFrame, RetryFrame, Lock, Tick, Book}
use Rattle.farm_types.specs.declared.entry.FramePlace.{FramePlace}
use Rattle.farm_types.specs.declared.entry.HeardAct.{HeardAct}
use Rattle.farm_types.specs.declared.job.JobSpec.{JobSpec}
use Rattle.farm_types.specs.declared.refusal.Refusal.TheVariants.{WrongState}
use Rattle.farm_types.specs.declared.rows.JobRow.{JobRow}
use Rattle.farm_types.specs.declared.slot_row.Frame.{Frame}
use Rattle.farm_types.specs.declared.slot_row.SlotRow.{SlotRow}
use Rattle.farm_types.specs.declared.states.FrameState.{FrameState}
use Rattle.farm_types.specs.declared.states.FrameState.TheVariants as frame_state
use Rattle.farm_types.specs.declared.states.LockState.{LockState}
use Rattle.farm_types.specs.declared.sub_line.SubLine.{SubLine}
use Rattle.farm_types.specs.Booking.{is_waiting, may_record, version_of}
use Rattle.farm_types.specs.DependActs.{is_running, pending_named, place_refusal}
use Rattle.farm_types.specs.Farm.{Farm, alloc_named, changed_at, host_named, limit_named, show_named}
use Rattle.farm_types.specs.Hosts.{heard_row}
use Rattle.farm_types.specs.Jobs.{frames_of, place_frames}
use Rattle.farm_types.specs.Lost.{lose_on, lost_row, runs_on}
use Rattle.farm_types.specs.Names.{frame_name}
use Rattle.farm_types.specs.Operators.{frame_act_refusal, frame_state_refusal, killed_row, may_retry, place_of, retried_row, slot_named, slot_row_named, state_refusal, stopped_row, version_refusal, with_killed, with_paused, with_row_at}
use Rattle.farm_types.specs.Run.{HasItsAttempt, IsSound}
use Rattle.farm_types.specs.Step.{HasCondition, act_refusal, after_act, after_boot, after_heard, after_limit, after_lock, after_sub, after_submit, booked_row, end_all, end_attempt, ended_row, expire, is_attempt, is_live, is_silent, new_proc, proc_of, sub_named, with_proc}
use Rattle.farm_types.proofs.Changed.{changed_at_other, places}
use Rattle.farm_types.proofs.Lists.{for_some_true}
use Rattle.farm_types.proofs.Stays.{EachStays}
use Rattle.farm_law.proofs.Booked.{booking_makes}
use Rattle.farm_law.proofs.Booted.{boot_slots}
use Rattle.farm_law.proofs.CanBook.{CanBook, Rows, can_book}
use Rattle.farm_law.proofs.Ended.{ended}
use Rattle.farm_law.proofs.Hosts.{changed_sound}
use Rattle.farm_law.proofs.KeptRuns.{neither}
use Rattle.farm_law.proofs.Lost.{expire_sound}
use Rattle.farm_law.proofs.Placed.{job_waits, placed_stays}
use Rattle.farm_law.proofs.RowsStay.{SlotStays}
use Rattle.depend_law.proofs.Filled.{placed_fills}
use Rattle.depend_law.proofs.KeptTurns.{end_sound}
use Rattle.depend_law.proofs.Turns.{on_frame, runs_frame}
use Rattle.entry_law.proofs.RowsGo.{booked_row_goes, ended_row_goes, fills_goes, killed_row_goes, lost_row_goes, retried_row_goes, stopped_row_goes}
use Rattle.entry_law.proofs.SlotGoes.{SlotGoes, changed_each, goes_same, goes_then, map_each}

-- the act is a booking of the slot
abbrev pub IsBookingOf : Act → ℕ → Type 0
IsBookingOf act slot = (host : ℕ) × (act ≡ Book slot host)

-- a frame whose state allows a retry doesn't wait
allowed_rests : (x : Frame) (state : FrameState) → cond (may_retry state) None (Some (WrongState x.state)) ≡ None → is_waiting state ≡ true → ⊥
allowed_rests x frame_state.Waiting none h = none-some (WrongState x.state) (sym none)
allowed_rests x frame_state.Setup none h = none-some (WrongState x.state) (sym none)
allowed_rests x frame_state.Depend none h = none-some (WrongState x.state) (sym none)
allowed_rests x frame_state.Running none h = false≢true h
allowed_rests x frame_state.Succeeded none h = false≢true h
allowed_rests x frame_state.Dead none h = false≢true h
allowed_rests x frame_state.Eaten none h = false≢true h

retry_rests : (frame : Option Frame) → frame_state_refusal may_retry frame ≡ None → on_frame is_waiting frame ≡ true → ⊥
retry_rests None none h = false≢true h
retry_rests (Some x) none h = allowed_rests x x.state none h

module _ (W B : Type 0) (n : ℕ) where
  -- the slot from one list to another
  abbrev pub At : List SlotRow → List SlotRow → Type 0
  At olds news = SlotGoes W B (slice_get olds n) (slice_get news n)

  pub at_same : (slots : List SlotRow) → At slots slots
  at_same slots = goes_same W B (slice_get slots n)

  pub at_then : (xs ys zs : List SlotRow) → At xs ys → At ys zs → At xs zs
  at_then xs ys zs = goes_then W B (slice_get xs n) (slice_get ys n) (slice_get zs n)

  -- ---- attempts that are lost

  lose_at : (test : ℕ → Bool) (slots : List SlotRow) → ((i : ℕ) (s : SlotRow) → slice_get slots i ≡ Some s → HasItsAttempt i s.version s.frame s.proc)
      → At slots (lose_on test slots)
  lose_at test slots attempts =
      map_each (SlotGoes W B) (goes_same W B) (λ (s : SlotRow). cond (runs_on test s) (lost_row s) s) slots n (λ s at. lost_row_goes W B test n s (attempts n s at))

  pub expire_at : (f : Farm) (moment : ℕ) → IsSound f → At f.slots (expire f moment).slots
  expire_at f moment ok = lose_at (is_silent f moment) f.slots ok.attempts

  boot_at : (f : Farm) (line : BootLine) (moment : ℕ) (o : Option ℕ) → IsSound f → At f.slots (after_boot f line moment o).slots
  boot_at f line moment None ok = at_same f.slots
  boot_at f line moment (Some alloc) ok =
      boot_slots (At f.slots) f line (host_named f line.host) (at_same f.slots) (λ host. lose_at (λ k. eqb k host) f.slots ok.attempts)

  -- ---- attempts that end

  live_runs : (f : Farm) (host boot slot version : ℕ) → IsSound f → is_live f host boot slot version ≡ true → (s : SlotRow)
      → slice_get f.slots slot ≡ Some s → on_frame is_running s.frame ≡ true
  live_runs f host boot slot version ok live s at =
      let found = for_some_true (slice_get f.slots slot) _ live in
      let p = for_some_true found.0.proc (is_attempt host boot version) found.2 in
      let same : found.0 ≡ s = same_Some found.0 s (sym found.1 ∙ at) in
      subst (λ (x : SlotRow). on_frame is_running x.frame ≡ true) same (runs_frame slot found.0.version found.0.frame found.0.proc p.0 p.1 (ok.attempts slot found.0 found.1))

  end_step : (f : Farm) (host boot : ℕ) (d : DoneItem) → IsSound f → (b : Bool) → is_live f host boot d.attempt.slot d.attempt.version ≡ b
      → At f.slots (cond b (ended f d.attempt.slot d.exit) f).slots
  end_step f host boot d ok false is = at_same f.slots
  end_step f host boot d ok true is =
      changed_each (SlotGoes W B) (goes_same W B) (ended_row f d.exit) f.slots d.attempt.slot n
      (λ s at. ended_row_goes W B f d.exit s (live_runs f host boot d.attempt.slot d.attempt.version ok is s at))

  end_at : (f : Farm) (host boot : ℕ) (ds : List DoneItem) → IsSound f → At f.slots (end_all f host boot ds).slots
  end_at f host boot [] ok = at_same f.slots
  end_at f host boot (d ∷ ds) ok =
      let now = end_attempt f host boot d in
      at_then f.slots now.slots (end_all now host boot ds).slots
      (end_step f host boot d ok (is_live f host boot d.attempt.slot d.attempt.version) refl) (end_at now host boot ds (end_sound f host boot d ok))

  heard_at : (f : Farm) (heard : HeardAct) (moment : ℕ) (o : Option ℕ) → IsSound f → At f.slots (after_heard f heard moment o).slots
  heard_at f heard moment None ok = at_same f.slots
  heard_at f heard moment (Some host) ok =
      end_at (record f { hosts = changed_at f.hosts host (heard_row heard.seq moment) }) host heard.boot heard.done
      (changed_sound f host (heard_row heard.seq moment) (λ row. (refl, refl)) ok)

  -- ---- a job that is submitted

  grown : (old new : List SlotRow) → EachStays SlotStays old new → (o : Option SlotRow) → slice_get old n ≡ o → version_of o ≤ version_of (slice_get new n)
  grown old new stays None at = omega arith
  grown old new stays (Some s) at =
      let now = stays n s at in
      let is = ap version_of now.1 in
      omega (arith, now.2.version, is)

  pub submit_at : (f : Farm) (spec : JobSpec) (o : Option ℕ) → At f.slots (after_submit f spec o).slots
  submit_at f spec None = at_same f.slots
  submit_at f spec (Some show) =
      let frames = frames_of f.next_job 0 spec.layers in
      fills_goes W B (slice_get f.slots n) (slice_get (place_frames f.slots frames) n) (grown f.slots (place_frames f.slots frames) (placed_stays f.slots frames) (slice_get f.slots n) refl)
      (placed_fills f.slots frames (job_waits f.next_job 0 spec.layers) n)

  -- ---- what operators do

  killed_at : (f : Farm) (o : Option JobRow) → At f.slots (with_killed f o).slots
  killed_at f None = at_same f.slots
  killed_at f (Some j) = map_each (SlotGoes W B) (goes_same W B) (killed_row j.job) f.slots n (λ s at. killed_row_goes W B j.job s)

  stopped_at : (state : FrameState) → is_running state ≡ false → (f : Farm) (o : Option ℕ) → At f.slots (with_row_at f (stopped_row state) o).slots
  stopped_at state rests f None = at_same f.slots
  stopped_at state rests f (Some slot) = changed_each (SlotGoes W B) (goes_same W B) (stopped_row state) f.slots slot n (λ s at. stopped_row_goes W B state rests s)

  retried_at : (f : Farm) (o : Option ℕ) → state_refusal may_retry (option_and_then (slice_get f.slots) o) ≡ None
      → At f.slots (with_row_at f retried_row o).slots
  retried_at f None none = at_same f.slots
  retried_at f (Some slot) none =
      changed_each (SlotGoes W B) (goes_same W B) retried_row f.slots slot n
      (λ s at. retried_row_goes W B s (retry_rests s.frame (subst (λ (o : Option SlotRow). state_refusal may_retry o ≡ None) at none)))

  -- a frame that may be retried
  pub may_be_retried : (f : Farm) (p : FramePlace) → act_refusal f (RetryFrame p) ≡ None
      → state_refusal may_retry (option_and_then (slice_get f.slots) (slot_named f p)) ≡ None
  may_be_retried f p accepted =
      let first = neither (frame_act_refusal may_retry f p) (version_refusal (frame_name p.frame p.layer) (slot_row_named f p)) accepted in
      (neither (place_refusal f (place_of p)) (state_refusal may_retry (slot_row_named f p)) first.0).1

  -- ---- what leaves slots as they are

  sub_at : (f : Farm) (line : SubLine) (o : Option ℕ) → At f.slots (after_sub f line o).slots
  sub_at f line None = at_same f.slots
  sub_at f line (Some sub) = at_same f.slots

  limit_at : (f : Farm) (name : List ℕ) (most : ℕ) (o : Option ℕ) → At f.slots (after_limit f name most o).slots
  limit_at f name most None = at_same f.slots
  limit_at f name most (Some limit) = at_same f.slots

  lock_at : (f : Farm) (lock : LockState) (o : Option ℕ) → At f.slots (after_lock f lock o).slots
  lock_at f lock None = at_same f.slots
  lock_at f lock (Some host) = at_same f.slots

  pause_at : (f : Farm) (paused : Bool) (o : Option JobRow) → At f.slots (with_paused f paused o).slots
  pause_at f paused None = at_same f.slots
  pause_at f paused (Some j) = at_same f.slots

-- ---- a booking

module _ (W : Type 0) (f : Farm) (slot host moment : ℕ) (r : Rows) (can : CanBook f slot host r) where
  abbrev booked_slots : List SlotRow
  booked_slots = changed_at f.slots slot (booked_row (proc_of slot host moment r.slot r.job r.layer r.host))

  booked_there : At W (IsBookingOf (Book slot host) slot) slot f.slots booked_slots
  booked_there =
      let B = IsBookingOf (Book slot host) slot in
      let p = proc_of slot host moment r.slot r.job r.layer r.host in
      changed_each (SlotGoes W B) (goes_same W B) (booked_row p) f.slots slot slot
      (λ s at. booked_row_goes W B p s (ap (λ (x : SlotRow). x.version + 1) (same_Some r.slot s (sym can.slot_is ∙ at))) (host, refl))

  booked_by : (n : ℕ) → (n ≡ slot) ⊎ (n ≢ slot) → At W (IsBookingOf (Book slot host) n) n f.slots booked_slots
  booked_by n (inl e) = subst (λ (k : ℕ). At W (IsBookingOf (Book slot host) k) k f.slots booked_slots) (sym e) booked_there
  booked_by n (inr apart) =
      let p = proc_of slot host moment r.slot r.job r.layer r.host in
      subst (SlotGoes W (IsBookingOf (Book slot host) n) (slice_get f.slots n)) (sym (changed_at_other f.slots slot n (booked_row p) apart)) (at_same W (IsBookingOf (Book slot host) n) n f.slots)

book_at : (W : Type 0) (f : Farm) (slot host moment n : ℕ) → may_record f slot host ≡ true
    → At W (IsBookingOf (Book slot host) n) n f.slots (with_proc f slot (new_proc f slot host moment)).slots
book_at W f slot host moment n allowed =
    let found = can_book f slot host allowed in
    subst (λ (g : Farm). At W (IsBookingOf (Book slot host) n) n f.slots g.slots) (sym (booking_makes f slot host moment found.0 found.1))
    (booked_by W f slot host moment found.0 found.1 n (places n slot))

-- ---- each act

pub act_at : (W : Type 0) (f : Farm) (moment n : ℕ) (act : Act) → act_refusal f act ≡ None → HasCondition f act → IsSound f
    → At W (IsBookingOf act n) n f.slots (after_act f moment act).slots
act_at W f moment n (Sub line) accepted allowed ok = sub_at W (IsBookingOf (Sub line) n) n f line (sub_named f line)
act_at W f moment n (Limit name most) accepted allowed ok = limit_at W (IsBookingOf (Limit name most) n) n f name most (limit_named f name)
act_at W f moment n (Boot line) accepted allowed ok =
    let B = IsBookingOf (Boot line) n in
    let now = expire f moment in
    at_then W B n f.slots now.slots (after_boot now line moment (alloc_named f line.alloc)).slots (expire_at W B n f moment ok)
    (boot_at W B n now line moment (alloc_named f line.alloc) (expire_sound f moment ok))
act_at W f moment n (Heard heard) accepted allowed ok =
    let B = IsBookingOf (Heard heard) n in
    let now = expire f moment in
    at_then W B n f.slots now.slots (after_heard now heard moment (host_named f heard.host)).slots (expire_at W B n f moment ok)
    (heard_at W B n now heard moment (host_named f heard.host) (expire_sound f moment ok))
act_at W f moment n (Submit spec) accepted allowed ok = submit_at W (IsBookingOf (Submit spec) n) n f spec (show_named f spec.show)
act_at W f moment n (Pause job paused) accepted allowed ok = pause_at W (IsBookingOf (Pause job paused) n) n f paused (pending_named f job)
act_at W f moment n (KillJob job) accepted allowed ok = killed_at W (IsBookingOf (KillJob job) n) n f (pending_named f job)
act_at W f moment n (KillFrame p) accepted allowed ok = stopped_at W (IsBookingOf (KillFrame p) n) n frame_state.Dead refl f (slot_named f p)
act_at W f moment n (EatFrame p) accepted allowed ok = stopped_at W (IsBookingOf (EatFrame p) n) n frame_state.Eaten refl f (slot_named f p)
act_at W f moment n (RetryFrame p) accepted allowed ok =
    let B = IsBookingOf (RetryFrame p) n in
    retried_at W B n f (slot_named f p) (may_be_retried W B n f p accepted)
act_at W f moment n (Lock host lock) accepted allowed ok = lock_at W (IsBookingOf (Lock host lock) n) n f lock (host_named f host)
act_at W f moment n Tick accepted allowed ok = expire_at W (IsBookingOf Tick n) n f moment ok
act_at W f moment n (Book slot host) accepted allowed ok = book_at W f slot host moment n allowed
act_at W f moment n act accepted allowed ok = at_same W (IsBookingOf act n) n f.slots
