-- Jobs that finish leave what every farm keeps of its rows, and each pending job with a frame that isn't done.
use Rattle.std.proofs.Common.{◌≡◌, ℕ, suc, zero, ◌+◌, ◌<◌, Bool, true, false, cond, not, ◌&&◌, ◌||◌, ◌⊎◌, inl, inr, eqb, List, [], ◌∷◌, map, length, Option, Some, None, refl, sym, ap, subst, ◌∙◌, arith}
use Rattle.std.specs.Cmp.Derive.{both_true}
use Rattle.std.specs.List.{AllByRecursion, filter, find, list_any, slice_get}
use Rattle.std.proofs.lemmas.Bool.{eq-eqb, false≢true, ne_eqb, not-true, not_from_false}
use Rattle.std.proofs.lemmas.Option.{none-some, same_Some}
use Rattle.farm_types.specs.declared.entry.Act.{Act}
use Rattle.farm_types.specs.declared.entry.Act.TheVariants.{EatFrame, Heard, KillJob}
use Rattle.farm_types.specs.declared.rows.JobRow.{JobRow}
use Rattle.farm_types.specs.declared.rows.LayerRow.{LayerRow}
use Rattle.farm_types.specs.declared.slot_row.Frame.{Frame}
use Rattle.farm_types.specs.declared.slot_row.SlotRow.{SlotRow}
use Rattle.farm_types.specs.Booking.{is_pending}
use Rattle.farm_types.specs.Depends.{is_done_state}
use Rattle.farm_types.specs.Farm.{Farm, for_some, for_any}
use Rattle.farm_types.specs.Finish.{finishes, freed_row, is_frame_of}
use Rattle.farm_types.specs.Kept.{KeepsRows, KeepsWork, is_of_pending, is_pending_job}
use Rattle.farm_types.specs.Operators.{is_left_of}
use Rattle.farm_types.specs.Rising.{IsRising, job_key}
use Rattle.farm_types.specs.Step.{closed, finish_all, finish_each, finish_one, finishing, lists_of}
use Rattle.farm_types.proofs.Changed.{mapped_each}
use Rattle.farm_types.proofs.Lists.{and_both, list_all-from_at}
use Rattle.farm_types.proofs.Passes.{for_some-there}
use Rattle.farm_law.proofs.Filtered.{at_kept, kept_at, rising-filter}
use Rattle.farm_law.proofs.Finished.{free_row, one_run}
pub use Rattle.farm_law.proofs.FinishedJobs.{found_by_number}
use Rattle.farm_law.proofs.FinishedJobs.{still_found}
use Rattle.farm_law.proofs.FinishedRows.{frame_other, jobs_finished, layer_stays, pending_still, pending_was}
use Rattle.farm_law.proofs.KeptAttempts.{Fits, FrameStays, attempts_from_each, each_fits, frames_owned, none_fits, slot_fits}
use Rattle.farm_law.proofs.KeptChanges.{kept_hosts}
use Rattle.farm_law.proofs.KeptLimits.{limits_fewer}
use Rattle.farm_law.proofs.KeptServes.{hosts_serve}
use Rattle.farm_law.proofs.RowsStay.{hosts_same}
use Rattle.farm_law.specs.Ending.{Ends}

-- ---- what is left of other jobs

-- a frame of another job isn't left of this one
left_of_other : (job n : ℕ) → eqb n job ≡ false → (o : Option Frame) → for_some o (λ (x : Frame). eqb x.job job) ≡ true → for_some o (λ (x : Frame). eqb x.job n && not (is_done_state x.state)) ≡ false
left_of_other job n other None is = refl
left_of_other job n other (Some x) is =
    let apart : eqb x.job n ≡ false = ne_eqb x.job n (λ e. false≢true (sym other ∙ subst (λ (m : ℕ). eqb m job ≡ true) e is)) in
    ap (λ (b : Bool). b && not (is_done_state x.state)) apart

left_step : (job n : ℕ) → eqb n job ≡ false → (s : SlotRow) (b : Bool) → is_frame_of job s ≡ b → is_left_of n (cond b (free_row s) s) ≡ is_left_of n s
left_step job n other s true is = sym (left_of_other job n other s.frame is)
left_step job n other s false is = refl

-- what is left of another job is as it was
pub left_stays : (job n : ℕ) → eqb n job ≡ false → (slots : List SlotRow) → list_any (is_left_of n) (map (freed_row job) slots) ≡ list_any (is_left_of n) slots
left_stays job n other [] = refl
left_stays job n other (s ∷ ss) = λ i. left_step job n other s (is_frame_of job s) refl i || left_stays job n other ss i

-- ---- one job

module _ (job : ℕ) (f : Farm) (k : KeepsRows f) where
  abbrev now : Farm
  now = finish_one job f

  -- what the frame of another job names stays
  named_stays : (x : Frame) → eqb x.job job ≡ false → is_of_pending f.jobs x.job ≡ true → FrameStays f now x
  named_stays x other owned =
      record {
        layer = λ l at. layer_stays job f.layers x.job x.layer l other at;
        job = λ j at.
            (j, still_found job f.slots f.next_finish x.job f.jobs j other at (subst (λ (o : Option JobRow). for_some o is_pending_job ≡ true) at owned), refl);
      }

  fits_step : (i : ℕ) (s : SlotRow) (b : Bool) → is_frame_of job s ≡ b → slice_get f.slots i ≡ Some s → Fits now (cond b (free_row s) s)
  fits_step i s true is at = none_fits now (free_row s) refl
  fits_step i s false is at =
      slot_fits f now (record { hosts = hosts_same f.hosts; subs = λ n there. there; moment = omega arith }) s
      (λ x here.
      named_stays x (frame_other job s.frame x is here)
      (subst (λ (o : Option Frame). for_any o (λ (y : Frame). is_of_pending f.jobs y.job) ≡ true) here (frames_owned f k i s at)))
      (λ p on. hosts_serve f.hosts p.host) (each_fits f k.attempts i s at)

  pub kept_one : Ends f job → KeepsRows now
  kept_one ends =
      record {
        moment_within = k.moment_within;
        shows = k.shows;
        allocs = k.allocs;
        subs = k.subs;
        limits = limits_fewer f.limits f.layers (λ (l : LayerRow). not (eqb l.job job)) k.limits;
        hosts = k.hosts;
        jobs = jobs_finished job (lists_of f) (length f.shows) ends.0 k.jobs ends.1;
        attempts = attempts_from_each now (mapped_each (λ i t. Fits now t) f.slots (freed_row job) (λ i s at. fits_step i s (is_frame_of job s) refl at));
        sound = (one_run job f).sound k.sound (kept_hosts f k);
      }

-- ---- several

abbrev pub number : ℕ → ℕ
number n = n

-- those after one end still as it finishes
pub later_ends : (job : ℕ) (f : Farm) (low : ℕ) (jobs : List ℕ) (high : ℕ) → job < low → IsRising number low jobs high → AllByRecursion (Ends f) jobs → AllByRecursion (Ends (finish_one job f)) jobs
later_ends job f low [] high less rise all = tt
later_ends job f low (n ∷ ns) high less rise all =
    let other = ne_eqb n job (λ e. omega (arith, rise.0, less, e)) in (
      (pending_still job f.slots f.next_finish f.jobs n other all.0.0, left_stays job n other f.slots ∙ all.0.1),
      later_ends job f (n + 1) ns high (omega (arith, rise.0, less)) rise.1 all.1,
    )

kept_each : (low : ℕ) (jobs : List ℕ) (high : ℕ) (f : Farm) → IsRising number low jobs high → AllByRecursion (Ends f) jobs → KeepsRows f → KeepsRows (finish_each jobs f)
kept_each low [] high f rise all k = k
kept_each low (n ∷ ns) high f rise all k = kept_each (n + 1) ns high (finish_one n f) rise.1 (later_ends n f (n + 1) ns high (omega arith) rise.1 all.1) (kept_one n f k all.0)

-- ---- those that finish

pub numbers_rise : (low : ℕ) (jobs : List JobRow) (high : ℕ) → IsRising job_key low jobs high → IsRising number low (map (λ (j : JobRow). j.job) jobs) high
numbers_rise low [] high rise = rise
numbers_rise low (j ∷ js) high rise = (rise.0, numbers_rise (j.job + 1) js high rise.1)

-- where each of some ends
all_end : (f : Farm) (jobs : List JobRow) → ((n : ℕ) (j : JobRow) → slice_get jobs n ≡ Some j → Ends f j.job) → AllByRecursion (Ends f) (map (λ (j : JobRow). j.job) jobs)
all_end f [] each = tt
all_end f (j ∷ js) each = (each 0 j refl, all_end f js (λ n k at. each (suc n) k at))

pub finishing_end : (f : Farm) → KeepsRows f → AllByRecursion (Ends f) (finishing f)
finishing_end f k =
    all_end f (filter (finishes f.slots) f.jobs)
    (λ n j at.
    let was = at_kept (finishes f.slots) f.jobs n j at in
    let both = and_both (is_pending j.state) (not (list_any (is_left_of j.job) f.slots)) was.2 in (
      for_some-there (find (λ (x : JobRow). eqb x.job j.job) f.jobs) is_pending_job j (found_by_number 1 f.jobs f.next_job was.0 j k.jobs.jobs_rise was.1) both.0,
      not-true (list_any (is_left_of j.job) f.slots) both.1,
    ))

-- their numbers rise
pub finishing_rise : (f : Farm) → KeepsRows f → IsRising number 1 (finishing f) f.next_job
finishing_rise f k = numbers_rise 1 (filter (finishes f.slots) f.jobs) f.next_job (rising-filter job_key (finishes f.slots) 1 f.jobs f.next_job k.jobs.jobs_rise)

pub kept_all : (f : Farm) → KeepsRows f → KeepsRows (finish_all f)
unfolding finish_all
kept_all f k = kept_each 1 (finishing f) f.next_job f (finishing_rise f k) (finishing_end f k) k

pub kept_closed : (act : Act) (f : Farm) → KeepsRows f → KeepsRows (closed act f)
kept_closed (Heard heard) f k = kept_all f k
kept_closed (KillJob job) f k = kept_all f k
kept_closed (EatFrame p) f k = kept_all f k
kept_closed act f k = k

-- ---- the work that is left

-- each pending job has a frame that isn't done, but for those
abbrev WorkBut : List ℕ → Farm → Type 0
WorkBut jobs f = (n : ℕ) (j : JobRow) → slice_get f.jobs n ≡ Some j → is_pending_job j ≡ true → (list_any (is_left_of j.job) f.slots ≡ true) ⊎ (list_any (eqb j.job) jobs ≡ true)

works : (pending left : Bool) → (pending ≡ true → (left ≡ true) ⊎ (false ≡ true)) → not (pending && not left) ≡ true
works false left h = refl
works true true h = refl
works true false h = elim (h refl) [
  | inl e ↦ absurd (false≢true e)
  | inr e ↦ absurd (false≢true e)
]

later_work : (one rest : Bool) → one ≡ false → (one || rest) ≡ true → rest ≡ true
later_work true rest none h = absurd (false≢true (sym none))
later_work false rest none h = h

one_work : (job : ℕ) (jobs : List ℕ) (f : Farm) → WorkBut (job ∷ jobs) f → WorkBut jobs (finish_one job f)
one_work job jobs f work n j at pending =
    let was = pending_was job f.slots f.next_finish f.jobs n j at pending in
    elim (work was.0 j was.1 pending) [
      | inl left ↦ inl (left_stays job j.job was.2 f.slots ∙ left)
      | inr among ↦ inr (later_work (eqb j.job job) (list_any (eqb j.job) jobs) was.2 among)
    ]

each_work : (jobs : List ℕ) (f : Farm) → WorkBut jobs f → KeepsWork (finish_each jobs f)
each_work [] f work =
    list_all-from_at (λ (j : JobRow). not (finishes f.slots j)) f.jobs (λ n j at. works (is_pending j.state) (list_any (is_left_of j.job) f.slots) (work n j at))
each_work (job ∷ jobs) f work = each_work jobs (finish_one job f) (one_work job jobs f work)

any_number : (jobs : List JobRow) (n : ℕ) (j : JobRow) → slice_get jobs n ≡ Some j → list_any (eqb j.job) (map (λ (k : JobRow). k.job) jobs) ≡ true
any_number [] n j at = absurd (none-some j at)
any_number (k ∷ ks) zero j at = ap (λ (b : Bool). b || list_any (eqb j.job) (map (λ (x : JobRow). x.job) ks)) (eq-eqb j.job k.job (sym (ap job_key (same_Some k j at))))
any_number (k ∷ ks) (suc n) j at = or_later (eqb j.job k.job) (list_any (eqb j.job) (map (λ (x : JobRow). x.job) ks)) (any_number ks n j at)
  where
    or_later : (a b : Bool) → b ≡ true → (a || b) ≡ true
    or_later true b h = refl
    or_later false b h = h

first_work : (f : Farm) (n : ℕ) (j : JobRow) (left : Bool) → list_any (is_left_of j.job) f.slots ≡ left → slice_get f.jobs n ≡ Some j → is_pending_job j ≡ true → (left ≡ true) ⊎ (list_any (eqb j.job) (finishing f) ≡ true)
first_work f n j true is at pending = inl refl
first_work f n j false is at pending =
    let place = kept_at (finishes f.slots) f.jobs n j at (both_true pending (not_from_false (list_any (is_left_of j.job) f.slots) is)) in
    inr (any_number (filter (finishes f.slots) f.jobs) place.0 j place.1)

-- once those that finish have, each pending job has work
pub work_all : (f : Farm) → KeepsWork (finish_all f)
unfolding finish_all
work_all f = each_work (finishing f) f (λ n j at pending. first_work f n j (list_any (is_left_of j.job) f.slots) refl at pending)
