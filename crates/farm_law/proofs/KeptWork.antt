-- Acts that complete nothing leave each pending job a frame that isn't done.
use Rattle.std.proofs.Common.{◌≡◌, ◌≤◌, ℕ, suc, zero, ◌+◌, ◌⊎◌, inl, inr, Bool, true, false, cond, ◌&&◌, ◌||◌, not, eqb, List, [], ◌∷◌, ◌++◌, length, Option, Some, None, ℤ, refl, sym, ap, subst, ◌∙◌, arith, option_map}
use Rattle.std.specs.Cmp.Derive.{both_true}
use Rattle.std.specs.List.{AllZip, list_all, list_any, slice_get, sum_by}
use Rattle.std.proofs.lemmas.Bool.{eq-eqb, false≢true, or_cases, or_left, or_right}
use Rattle.std.proofs.lemmas.List.Folds.{list_all-append}
use Rattle.std.proofs.lemmas.List.Sums.{sum_by-cons}
use Rattle.std.proofs.lemmas.Option.{none-some, same_Some}
use Rattle.farm_types.specs.declared.attempt.ProcRow.{ProcRow}
use Rattle.farm_types.specs.declared.boot.BootLine.{BootLine}
use Rattle.farm_types.specs.declared.entry.Act.{Act}
use Rattle.farm_types.specs.declared.entry.Act.TheVariants.{Opened, Show, Alloc, Sub, Limit, Boot, Heard, Submit, AddDepend, DropDepend, Pause, KillJob, KillFrame, EatFrame, RetryFrame, Lock, Tick, Book}
use Rattle.farm_types.specs.declared.job.JobSpec.{JobSpec}
use Rattle.farm_types.specs.declared.job.LayerSpec.{LayerSpec}
use Rattle.farm_types.specs.declared.rows.JobRow.{JobRow}
use Rattle.farm_types.specs.declared.slot_row.Frame.{Frame}
use Rattle.farm_types.specs.declared.slot_row.SlotRow.{SlotRow}
use Rattle.farm_types.specs.declared.states.FrameState.{FrameState}
use Rattle.farm_types.specs.declared.states.FrameState.TheVariants as frame_state
use Rattle.farm_types.specs.declared.states.LockState.{LockState}
use Rattle.farm_types.specs.declared.sub_line.SubLine.{SubLine}
use Rattle.farm_types.specs.Booking.{is_pending}
use Rattle.farm_types.specs.DependActs.{pending_named}
use Rattle.farm_types.specs.Depends.{is_done_state}
use Rattle.farm_types.specs.Farm.{Farm, alloc_named, changed_at, for_some, host_named, limit_named, show_named}
use Rattle.farm_types.specs.Finish.{finishes}
use Rattle.farm_types.specs.Formed.{IsFormedAct, IsFormedJob}
use Rattle.farm_types.specs.Jobs.{frames_from, frames_of, is_finished_named, job_row, place_frames, without_finished}
use Rattle.farm_types.specs.Kept.{KeepsWork, is_pending_job}
use Rattle.farm_types.specs.Lost.{lose_on, lost_row, runs_on}
use Rattle.farm_types.specs.Operators.{is_left_of, paused_row, retried_row, slot_named, stopped_row, with_paused, with_row_at}
use Rattle.farm_types.specs.Step.{after_act, after_boot, after_limit, after_lock, after_sub, after_submit, booked_row, closed, expire, followed, is_silent, new_proc, sub_named, with_proc}
use Rattle.farm_types.proofs.Changed.{mapped_each}
use Rattle.farm_types.proofs.Lists.{and_both, list_all-at, list_all-from_at}
use Rattle.farm_types.proofs.Passes.{cond_each}
use Rattle.farm_law.proofs.Booted.{boot_slots}
use Rattle.farm_law.proofs.Filtered.{at_kept}
use Rattle.farm_law.proofs.FinishedKept.{work_all}
use Rattle.farm_law.proofs.Follows.{SlotFollows, act_follows, is_idle}
use Rattle.farm_law.proofs.KeptJobsAdded.{in_either}
use Rattle.farm_law.proofs.KeptJobsFrames.{length-frames_of}
use Rattle.farm_law.proofs.KeptJobsPlaced.{sum_placed}
use Rattle.farm_law.proofs.KeptJobsZip.{zip_changed_at, zip_map, zip_weaker}
use Rattle.farm_law.proofs.Paused.{unread}

-- ---- frames that are left

-- the frame is of the job, and isn't done
abbrev is_left : ℕ → Frame → Bool
is_left n x = eqb x.job n && not (is_done_state x.state)

-- a slot with a frame left of a job has one still
abbrev pub LeftStays : SlotRow → SlotRow → Type 0
LeftStays s t = (n : ℕ) → is_left_of n s ≡ true → is_left_of n t ≡ true

-- and so has the list
abbrev pub AnyStays : List SlotRow → List SlotRow → Type 0
AnyStays olds news = (n : ℕ) → list_any (is_left_of n) olds ≡ true → list_any (is_left_of n) news ≡ true

any_step : (n : ℕ) (s t : SlotRow) (ss ts : List SlotRow) → LeftStays s t → (list_any (is_left_of n) ss ≡ true → list_any (is_left_of n) ts ≡ true) → (is_left_of n s ≡ true) ⊎ (list_any (is_left_of n) ss ≡ true)
    → list_any (is_left_of n) (t ∷ ts) ≡ true
any_step n s t ss ts stays later (inl here) = or_left (is_left_of n t) (list_any (is_left_of n) ts) (stays n here)
any_step n s t ss ts stays later (inr rest) = or_right (is_left_of n t) (list_any (is_left_of n) ts) (later rest)

any_zip : (olds news : List SlotRow) → AllZip LeftStays olds news → AnyStays olds news
any_zip [] news zip n h = absurd (false≢true h)
any_zip (s ∷ ss) [] zip n h = absurd zip
any_zip (s ∷ ss) (t ∷ ts) zip n h = any_step n s t ss ts zip.0 (any_zip ss ts zip.1 n) (or_cases (is_left_of n s) (list_any (is_left_of n) ss) h)

-- a frame of the same job in a state that isn't done
changed_left : (change : Frame → Frame) → ((x : Frame) → (change x).job ≡ x.job) → ((x : Frame) → is_done_state (change x).state ≡ false) → (o : Option Frame) (n : ℕ) → for_some o (is_left n) ≡ true → for_some (option_map change o) (is_left n) ≡ true
changed_left change same undone None n h = absurd (false≢true h)
changed_left change same undone (Some x) n h =
    let both = and_both (eqb x.job n) (not (is_done_state x.state)) h in
    both_true (ap (λ (job : ℕ). eqb job n) (same x) ∙ both.0) (ap not (undone x))

state_left : (state : FrameState) → is_done_state state ≡ false → (o : Option Frame) (n : ℕ) → for_some o (is_left n) ≡ true → for_some (option_map (λ (x : Frame). record x { state = state }) o) (is_left n) ≡ true
state_left state undone o n h = changed_left (λ (x : Frame). record x { state = state }) (λ x. refl) (λ x. undone) o n h

left_same : (s : SlotRow) → LeftStays s s
left_same s n h = h

lose_left : (test : ℕ → Bool) (slots : List SlotRow) → AnyStays slots (lose_on test slots)
lose_left test slots =
    any_zip slots (lose_on test slots)
    (zip_map LeftStays (λ (s : SlotRow). cond (runs_on test s) (lost_row s) s)
    (λ s. cond_each (LeftStays s) (runs_on test s) (lost_row s) s (λ n h. state_left frame_state.Waiting refl s.frame n h) (left_same s)) slots)

changed_slot : (slots : List SlotRow) (i : ℕ) (change : SlotRow → SlotRow) → ((s : SlotRow) → LeftStays s (change s)) → AnyStays slots (changed_at slots i change)
changed_slot slots i change stays = any_zip slots (changed_at slots i change) (zip_changed_at LeftStays left_same change slots i (λ s at. stays s))

-- ---- jobs with work

has_work : (pending left : Bool) → (pending ≡ true → left ≡ true) → not (pending && not left) ≡ true
has_work false left h = refl
has_work true left h = ap (λ (b : Bool). not (not b)) (h refl)

work_of : (pending left : Bool) → not (pending && not left) ≡ true → pending ≡ true → left ≡ true
work_of true true h is = refl
work_of true false h is = absurd (false≢true h)
work_of false left h is = absurd (false≢true is)

-- each pending job was there, by its number
abbrev WereThere : List JobRow → List JobRow → Type 0
WereThere olds news = (n : ℕ) (j : JobRow) → slice_get news n ≡ Some j → is_pending_job j ≡ true → (m : ℕ) × (i : JobRow) × (slice_get olds m ≡ Some i) × (is_pending_job i ≡ true) × (i.job ≡ j.job)

job_work : (jobs : List JobRow) (slots : List SlotRow) → list_all (λ (j : JobRow). not (finishes slots j)) jobs ≡ true → (n : ℕ) (j : JobRow) → slice_get jobs n ≡ Some j → is_pending_job j ≡ true → list_any (is_left_of j.job) slots ≡ true
job_work jobs slots all n j at pending = work_of (is_pending j.state) (list_any (is_left_of j.job) slots) (list_all-at (λ (i : JobRow). not (finishes slots i)) jobs n j all at) pending

works_by : (jobs : List JobRow) (slots : List SlotRow) → ((n : ℕ) (j : JobRow) → slice_get jobs n ≡ Some j → is_pending_job j ≡ true → list_any (is_left_of j.job) slots ≡ true) → list_all (λ (j : JobRow). not (finishes slots j)) jobs ≡ true
works_by jobs slots each = list_all-from_at (λ (j : JobRow). not (finishes slots j)) jobs (λ n j at. has_work (is_pending j.state) (list_any (is_left_of j.job) slots) (each n j at))

work_stays : (f g : Farm) → WereThere f.jobs g.jobs → AnyStays f.slots g.slots → KeepsWork f → KeepsWork g
work_stays f g there stays work =
    works_by g.jobs g.slots
    (λ n j at pending.
    let was = there n j at pending in
    stays j.job (subst (λ (m : ℕ). list_any (is_left_of m) f.slots ≡ true) was.4 (job_work f.jobs f.slots work was.0 was.1 was.2 was.3)))

there_same : (jobs : List JobRow) → WereThere jobs jobs
there_same jobs n j at pending = (n, j, at, pending, refl)

-- ---- each act

work_sub : (f : Farm) (line : SubLine) (o : Option ℕ) → KeepsWork f → KeepsWork (after_sub f line o)
work_sub f line None work = work
work_sub f line (Some sub) work = work

work_limit : (f : Farm) (name : List ℕ) (most : ℕ) (o : Option ℕ) → KeepsWork f → KeepsWork (after_limit f name most o)
work_limit f name most None work = work
work_limit f name most (Some limit) work = work

work_lock : (f : Farm) (lock : LockState) (o : Option ℕ) → KeepsWork f → KeepsWork (after_lock f lock o)
work_lock f lock None work = work
work_lock f lock (Some host) work = work

work_expire : (f : Farm) (moment : ℕ) → KeepsWork f → KeepsWork (expire f moment)
work_expire f moment work = work_stays f (expire f moment) (there_same f.jobs) (lose_left (is_silent f moment) f.slots) work

work_boot : (f : Farm) (line : BootLine) (moment : ℕ) (o : Option ℕ) → KeepsWork f → KeepsWork (after_boot f line moment o)
work_boot f line moment None work = work
work_boot f line moment (Some alloc) work =
    work_stays f (after_boot f line moment (Some alloc)) (there_same f.jobs)
    (boot_slots (AnyStays f.slots) f line (host_named f line.host) (λ n h. h) (λ host. lose_left (λ n. eqb n host) f.slots)) work

work_pause : (f : Farm) (paused : Bool) (o : Option JobRow) → KeepsWork f → KeepsWork (with_paused f paused o)
work_pause f paused None work = work
work_pause f paused (Some j) work =
    work_stays f (with_paused f paused (Some j))
    (mapped_each (λ n i. is_pending_job i ≡ true → (m : ℕ) × (k : JobRow) × (slice_get f.jobs m ≡ Some k) × (is_pending_job k ≡ true) × (k.job ≡ i.job)) f.jobs (paused_row j.job paused)
    (λ n i at pending. (n, i, at, sym (unread is_pending_job (λ x b. refl) j.job paused i) ∙ pending, sym (unread (λ x. x.job) (λ x b. refl) j.job paused i))))
    (λ n h. h) work

work_row : (f : Farm) (change : SlotRow → SlotRow) → ((s : SlotRow) → LeftStays s (change s)) → (o : Option ℕ) → KeepsWork f → KeepsWork (with_row_at f change o)
work_row f change stays None work = work
work_row f change stays (Some slot) work = work_stays f (with_row_at f change (Some slot)) (there_same f.jobs) (changed_slot f.slots slot change stays) work

work_book : (f : Farm) (slot : ℕ) (o : Option ProcRow) → KeepsWork f → KeepsWork (with_proc f slot o)
work_book f slot None work = work
work_book f slot (Some p) work =
    work_stays f (with_proc f slot (Some p)) (there_same f.jobs) (changed_slot f.slots slot (booked_row p) (λ s n h. state_left frame_state.Running refl s.frame n h)) work

-- ---- a job that is submitted

from_left : (job layer position : ℕ) (ns : List ℤ) → list_all (is_left job) (frames_from job layer position ns) ≡ true
from_left job layer position [] = refl
from_left job layer position (n ∷ ns) = both_true (both_true (eq-eqb job job refl) refl) (from_left job layer (position + 1) ns)

of_left : (job place : ℕ) (ls : List LayerSpec) → list_all (is_left job) (frames_of job place ls) ≡ true
of_left job place [] = refl
of_left job place (l ∷ ls) =
    list_all-append (is_left job) (frames_from job place 0 l.numbers) (frames_of job (place + 1) ls) ∙ both_true (from_left job place 0 l.numbers) (of_left job (place + 1) ls)

-- 1 where the frame is left of the job
abbrev left_weight : ℕ → Option Frame → ℕ
left_weight n o = cond (for_some o (is_left n)) 1 0

some_left : (n : ℕ) (frames : List Frame) → 1 ≤ length frames → list_all (is_left n) frames ≡ true → 1 ≤ sum_by (λ (x : Frame). left_weight n (Some x)) frames
some_left n [] some all = absurd (omega (arith, some))
some_left n (x ∷ xs) some all =
    let one : ◌≡◌ {A = ℕ} (cond (is_left n x) 1 0) 1 = ap (λ (b : Bool). cond b 1 0) (and_both (is_left n x) (list_all (is_left n) xs) all).0 in
    omega (arith, sum_by-cons (λ (y : Frame). left_weight n (Some y)) x xs, one)

abbrev left_in : ℕ → List SlotRow → ℕ
left_in n slots = sum_by (λ (s : SlotRow). left_weight n s.frame) slots

counted_step : (n : ℕ) (s : SlotRow) (ss : List SlotRow) (b : Bool) → is_left_of n s ≡ b → (list_any (is_left_of n) ss ≡ true → 1 ≤ left_in n ss) → (b || list_any (is_left_of n) ss) ≡ true → 1 ≤ left_in n (s ∷ ss)
counted_step n s ss true is later h =
    let one : ◌≡◌ {A = ℕ} (cond (is_left_of n s) 1 0) 1 = ap (λ (b : Bool). cond b 1 0) is in
    omega (arith, sum_by-cons (λ (r : SlotRow). left_weight n r.frame) s ss, one)
counted_step n s ss false is later h = omega (arith, sum_by-cons (λ (r : SlotRow). left_weight n r.frame) s ss, later h)

any_counted : (n : ℕ) (slots : List SlotRow) → list_any (is_left_of n) slots ≡ true → 1 ≤ left_in n slots
any_counted n [] h = absurd (false≢true h)
any_counted n (s ∷ ss) h = counted_step n s ss (is_left_of n s) refl (any_counted n ss) h

found_step : (n : ℕ) (s : SlotRow) (ss : List SlotRow) (b : Bool) → is_left_of n s ≡ b → (1 ≤ left_in n ss → list_any (is_left_of n) ss ≡ true) → 1 ≤ left_in n (s ∷ ss) → (b || list_any (is_left_of n) ss) ≡ true
found_step n s ss true is later some = refl
found_step n s ss false is later some =
    let none : ◌≡◌ {A = ℕ} (cond (is_left_of n s) 1 0) 0 = ap (λ (b : Bool). cond b 1 0) is in
    later (omega (arith, sum_by-cons (λ (r : SlotRow). left_weight n r.frame) s ss, none, some))

counted_any : (n : ℕ) (slots : List SlotRow) → 1 ≤ left_in n slots → list_any (is_left_of n) slots ≡ true
counted_any n [] some = absurd (omega (arith, some))
counted_any n (s ∷ ss) some = found_step n s ss (is_left_of n s) refl (counted_any n ss) some

module _ (f : Farm) (spec : JobSpec) (show : ℕ) (formed : IsFormedJob spec) (work : KeepsWork f) where
  abbrev frames : List Frame
  frames = frames_of f.next_job 0 spec.layers

  abbrev row : JobRow
  row = job_row f.next_job show spec

  -- as many frames are left, and the new ones
  placed_left : (n : ℕ) → left_in n (place_frames f.slots frames) ≡ left_in n f.slots + sum_by (λ (x : Frame). left_weight n (Some x)) frames
  placed_left n = sum_placed (left_weight n) refl f.slots frames

  old_work : (n : ℕ) → list_any (is_left_of n) f.slots ≡ true → list_any (is_left_of n) (place_frames f.slots frames) ≡ true
  old_work n h = counted_any n (place_frames f.slots frames) (omega (arith, placed_left n, any_counted n f.slots h))

  new_work : list_any (is_left_of f.next_job) (place_frames f.slots frames) ≡ true
  new_work =
      let some = some_left f.next_job frames (omega (arith, length-frames_of f.next_job 0 spec.layers, formed.limits.frames_within.0)) (of_left f.next_job 0 spec.layers) in
      counted_any f.next_job (place_frames f.slots frames) (omega (arith, placed_left f.next_job, some))

  work_at : (n : ℕ) (j : JobRow) → (slice_get (without_finished spec.name f.jobs) n ≡ Some j) ⊎ ((m : ℕ) × (slice_get (row ∷ []) m ≡ Some j)) → is_pending_job j ≡ true → list_any (is_left_of j.job) (place_frames f.slots frames) ≡ true
  work_at n j (inl here) pending =
      let was = at_kept (λ (i : JobRow). not (is_finished_named spec.name i)) f.jobs n j here in
      old_work j.job (job_work f.jobs f.slots work was.0 j was.1 pending)
  work_at n j (inr new) pending = at_new new.0 new.1
    where
      at_new : (m : ℕ) → slice_get (row ∷ []) m ≡ Some j → list_any (is_left_of j.job) (place_frames f.slots frames) ≡ true
      at_new zero at = subst (λ (i : JobRow). list_any (is_left_of i.job) (place_frames f.slots frames) ≡ true) (same_Some row j at) new_work
      at_new (suc m) at = absurd (none-some j at)

  submitted_work : KeepsWork (after_submit f spec (Some show))
  submitted_work =
      works_by (without_finished spec.name f.jobs ++ row ∷ []) (place_frames f.slots frames)
      (λ n j at pending. work_at n j (in_either (without_finished spec.name f.jobs) (row ∷ []) n j at) pending)

work_submit : (f : Farm) (spec : JobSpec) (o : Option ℕ) → IsFormedJob spec → KeepsWork f → KeepsWork (after_submit f spec o)
work_submit f spec None formed work = work
work_submit f spec (Some show) formed work = submitted_work f spec show formed work

-- ---- any act, what follows of it, and the jobs that finish

-- what an act leaves: after those that complete frames, jobs may be to finish
abbrev WorkLeft : Farm → Act → Type 0
WorkLeft g (Heard heard) = Unit {0}
WorkLeft g (KillJob job) = Unit {0}
WorkLeft g (EatFrame p) = Unit {0}
WorkLeft g act = KeepsWork g

work_act : (f : Farm) (moment : ℕ) (act : Act) → IsFormedAct act → KeepsWork f → WorkLeft (after_act f moment act) act
work_act f moment Opened formed work = work
work_act f moment (Show name) formed work = work
work_act f moment (Alloc facility tag) formed work = work
work_act f moment (Sub line) formed work = work_sub f line (sub_named f line) work
work_act f moment (Limit name most) formed work = work_limit f name most (limit_named f name) work
work_act f moment (Boot line) formed work = work_boot (expire f moment) line moment (alloc_named f line.alloc) (work_expire f moment work)
work_act f moment (Heard heard) formed work = tt
work_act f moment (Submit spec) formed work = work_submit f spec (show_named f spec.show) formed work
work_act f moment (AddDepend spec) formed work = work
work_act f moment (DropDepend depend) formed work = work
work_act f moment (Pause job paused) formed work = work_pause f paused (pending_named f job) work
work_act f moment (KillJob job) formed work = tt
work_act f moment (KillFrame p) formed work = work_row f (stopped_row frame_state.Dead) (λ s n h. state_left frame_state.Dead refl s.frame n h) (slot_named f p) work
work_act f moment (EatFrame p) formed work = tt
work_act f moment (RetryFrame p) formed work =
    work_row f retried_row (λ s n h. changed_left (λ (x : Frame). record x { state = frame_state.Waiting; retries = 0 }) (λ x. refl) (λ x. refl) s.frame n h) (slot_named f p) work
work_act f moment (Lock host lock) formed work = work_lock f lock (host_named f host) work
work_act f moment Tick formed work = work_expire f moment work
work_act f moment (Book slot host) formed work = work_book f slot (new_proc f slot host moment) work

idle_undone : (state : FrameState) → is_idle state ≡ true → is_done_state state ≡ false
idle_undone frame_state.Waiting idle = refl
idle_undone frame_state.Depend idle = refl
idle_undone frame_state.Setup idle = refl
idle_undone frame_state.Running idle = refl
idle_undone frame_state.Succeeded idle = absurd (false≢true idle)
idle_undone frame_state.Dead idle = refl
idle_undone frame_state.Eaten idle = absurd (false≢true idle)

follows_left : (s t : SlotRow) → SlotFollows s t → LeftStays s t
follows_left s t (inl same) n h = ap (is_left_of n) same ∙ h
follows_left s t (inr re) n h = subst (λ (o : Option Frame). for_some o (is_left n) ≡ true) (sym re.frame) (state_left re.state (idle_undone re.state re.idle_now) s.frame n h)

work_follows : (f : Farm) (act : Act) → KeepsWork f → KeepsWork (followed act f)
work_follows f act work =
    let g = followed act f in
    let follows = act_follows act f in
    work_stays f g (subst (WereThere f.jobs) (sym (ap (λ (h : Farm). h.jobs) follows.rest)) (there_same f.jobs)) (any_zip f.slots g.slots (zip_weaker SlotFollows LeftStays follows_left f.slots g.slots follows.slots)) work

work_followed : (f : Farm) (act : Act) → WorkLeft f act → WorkLeft (followed act f) act
work_followed f (Heard heard) work = tt
work_followed f (KillJob job) work = tt
work_followed f (EatFrame p) work = tt
work_followed f act work = work_follows f act work

work_closed : (f : Farm) (act : Act) → WorkLeft f act → KeepsWork (closed act f)
work_closed f (Heard heard) work = work_all f
work_closed f (KillJob job) work = work_all f
work_closed f (EatFrame p) work = work_all f
work_closed f act work = work

pub work_kept : (f : Farm) (moment : ℕ) (act : Act) → IsFormedAct act → KeepsWork f → KeepsWork (closed act (followed act (after_act f moment act)))
work_kept f moment act formed work =
    let acts = after_act f moment act in
    work_closed (followed act acts) act (work_followed acts act (work_act f moment act formed work))
