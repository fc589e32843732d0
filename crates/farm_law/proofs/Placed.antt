-- Placing a job's frames keeps the farm sound.
use Rattle.std.proofs.Common.{◌≡◌, ℕ, suc, zero, ◌+◌, ◌≤◌, Bool, true, false, cond, List, [], ◌∷◌, ◌++◌, map, length, Option, Some, None, refl, subst, arith, ltb, eqb, not, ◌&&◌, ap, ◌∙◌}
use Rattle.std.specs.Prelude.{ℤ, bytes_eq, is_none}
use Rattle.std.specs.Option.{option_or}
use Rattle.std.specs.List.{slice_get, sum_by, list_all, find}
use Rattle.std.proofs.lemmas.Option.{none-some, same_Some}
use Rattle.std.proofs.lemmas.Bool.{false≢true}
use Rattle.std.proofs.lemmas.List.Sums.{sum_by-cons}
use Rattle.farm_types.specs.declared.attempt.ProcRow.{ProcRow}
use Rattle.farm_types.specs.declared.job.JobSpec.{JobSpec}
use Rattle.farm_types.specs.declared.job.LayerSpec.{LayerSpec}
use Rattle.farm_types.specs.declared.slot_row.Frame.{Frame}
use Rattle.farm_types.specs.declared.slot_row.SlotRow.{SlotRow}
use Rattle.farm_types.specs.declared.states.FrameState.{FrameState}
use Rattle.farm_types.specs.declared.states.FrameState.TheVariants.{Waiting, Setup, Running, Succeeded, Depend, Dead, Eaten}
use Rattle.farm_types.specs.Booking.{is_pending, is_waiting}
use Rattle.farm_types.specs.Farm.{Farm}
use Rattle.farm_types.specs.Jobs.{is_free, slot_with, fresh_slot, place_frames, frames_from, frames_of, is_finished_named, job_row, without_finished}
use Rattle.farm_types.specs.Run.{IsSound, HasItsHosts, HasItsAttempt, IsAttemptOf, OnHostOf}
use Rattle.farm_types.specs.Step.{after_submit}
use Rattle.farm_types.specs.Sums.{cores_on, memory_on}
use Rattle.farm_types.proofs.Lists.{and_both}
use Rattle.farm_types.specs.declared.limits.TheConstants.{LAST_VERSION}
use Rattle.farm_law.proofs.Filtered.{found_kept}
use Rattle.farm_law.proofs.KeepsLaw.{KeepsLaw, law_same}
use Rattle.farm_law.proofs.RowsStay.{SlotStays, JobsStay, slot_same, hosts_same, allocs_same, frame_job}
use Rattle.farm_types.proofs.Stays.{EachStays}
use Rattle.farm_types.specs.declared.rows.JobRow.{JobRow}
use Rattle.std.proofs.lemmas.List.Folds.{list_all-append, find-append}
use Rattle.std.specs.Cmp.Derive.{both_true}

-- ---- what holds of each slot

-- it holds of each free slot with a waiting frame in it
abbrev pub Filled : (ℕ → SlotRow → Type 0) → List SlotRow → Type 0
Filled P ss = (i : ℕ) (s : SlotRow) (x : Frame) → slice_get ss i ≡ Some s → is_free s ≡ true → is_waiting x.state ≡ true → P i (slot_with x s)

-- it holds of each slot past these that was never used, with a waiting frame in it
abbrev pub Begun : (ℕ → SlotRow → Type 0) → List SlotRow → Type 0
Begun P ss = (i : ℕ) (x : Frame) → length ss ≤ i → is_waiting x.state ≡ true → P i (fresh_slot x)

abbrev pub Each : (ℕ → SlotRow → Type 0) → List SlotRow → Type 0
Each P ss = (i : ℕ) (s : SlotRow) → slice_get ss i ≡ Some s → P i s

abbrev pub waits : Frame → Bool
waits x = is_waiting x.state

fresh_each : (P : ℕ → SlotRow → Type 0) (xs : List Frame) → list_all waits xs ≡ true → Begun P [] → Each P (map fresh_slot xs)
fresh_each P [] all begun i s at = absurd (none-some s at)
fresh_each P (x ∷ xs) all begun zero s at = subst (P 0) (same_Some (fresh_slot x) s at) (begun 0 x (omega arith) (and_both (waits x) (list_all waits xs) all).0)
fresh_each P (x ∷ xs) all begun (suc i) s at =
    fresh_each (λ k. P (suc k)) xs (and_both (waits x) (list_all waits xs) all).1 (λ k y past w. begun (suc k) y (omega arith) w) i s at

placed_first : (P : ℕ → SlotRow → Type 0) (y : SlotRow) (ys : List SlotRow) (x : Frame) (xs : List Frame) (b : Bool) → is_free y ≡ b → waits x ≡ true → P 0 y → Filled P (y ∷ ys)
    → Each (λ k. P (suc k)) (place_frames ys xs) → Each (λ k. P (suc k)) (place_frames ys (x ∷ xs)) → Each P (cond b (slot_with x y ∷ place_frames ys xs) (y ∷ place_frames ys (x ∷ xs)))
placed_first P y ys x xs true free w here filled used kept zero s at = subst (P 0) (same_Some (slot_with x y) s at) (filled 0 y x refl free w)
placed_first P y ys x xs true free w here filled used kept (suc i) s at = used i s at
placed_first P y ys x xs false free w here filled used kept zero s at = subst (P 0) (same_Some y s at) here
placed_first P y ys x xs false free w here filled used kept (suc i) s at = kept i s at

-- what holds of the slots, of free ones with a waiting frame, and of such new ones, holds of all after placing
pub placed_each : (P : ℕ → SlotRow → Type 0) (ss : List SlotRow) (xs : List Frame) → list_all waits xs ≡ true → Each P ss → Filled P ss → Begun P ss → Each P (place_frames ss xs)
placed_each P [] xs all old filled begun i s at = fresh_each P xs all begun i s at
placed_each P (y ∷ ys) [] all old filled begun i s at = old i s at
placed_each P (y ∷ ys) (x ∷ xs) all old filled begun i s at =
    placed_first P y ys x xs (is_free y) refl (and_both (waits x) (list_all waits xs) all).0 (old 0 y refl) filled
    (placed_each (λ k. P (suc k)) ys xs (and_both (waits x) (list_all waits xs) all).1 (λ k z a. old (suc k) z a) (λ k z f a. filled (suc k) z f a) (λ k f past w. begun (suc k) f (omega arith) w))
    (placed_each (λ k. P (suc k)) ys (x ∷ xs) all (λ k z a. old (suc k) z a) (λ k z f a. filled (suc k) z f a) (λ k f past w. begun (suc k) f (omega arith) w))
    i s at

-- ---- sums over live attempts, and the number of slots

fresh_sum : (weight : Option ProcRow → ℕ) → weight None ≡ 0 → (xs : List Frame) → sum_by (λ (s : SlotRow). weight s.proc) (map fresh_slot xs) ≡ 0
fresh_sum weight none [] = refl
fresh_sum weight none (x ∷ xs) = omega (arith, sum_by-cons (λ (s : SlotRow). weight s.proc) (fresh_slot x) (map fresh_slot xs), none, fresh_sum weight none xs)

first_sum : (weight : Option ProcRow → ℕ) (y : SlotRow) (ys : List SlotRow) (x : Frame) (xs : List Frame) (b : Bool)
    → sum_by (λ (s : SlotRow). weight s.proc) (place_frames ys xs) ≡ sum_by (λ (s : SlotRow). weight s.proc) ys
    → sum_by (λ (s : SlotRow). weight s.proc) (place_frames ys (x ∷ xs)) ≡ sum_by (λ (s : SlotRow). weight s.proc) ys
    → sum_by (λ (s : SlotRow). weight s.proc) (cond b (slot_with x y ∷ place_frames ys xs) (y ∷ place_frames ys (x ∷ xs))) ≡ sum_by (λ (s : SlotRow). weight s.proc) (y ∷ ys)
first_sum weight y ys x xs true used kept =
    omega (arith, sum_by-cons (λ (s : SlotRow). weight s.proc) (slot_with x y) (place_frames ys xs), sum_by-cons (λ (s : SlotRow). weight s.proc) y ys, used)
first_sum weight y ys x xs false used kept =
    omega (arith, sum_by-cons (λ (s : SlotRow). weight s.proc) y (place_frames ys (x ∷ xs)), sum_by-cons (λ (s : SlotRow). weight s.proc) y ys, kept)

-- a sum over the live attempts stays
pub placed_sum : (weight : Option ProcRow → ℕ) → weight None ≡ 0 → (ss : List SlotRow) (xs : List Frame) → sum_by (λ (s : SlotRow). weight s.proc) (place_frames ss xs) ≡ sum_by (λ (s : SlotRow). weight s.proc) ss
placed_sum weight none [] xs = fresh_sum weight none xs
placed_sum weight none (y ∷ ys) [] = refl
placed_sum weight none (y ∷ ys) (x ∷ xs) = first_sum weight y ys x xs (is_free y) (placed_sum weight none ys xs) (placed_sum weight none ys (x ∷ xs))

first_count : (y : SlotRow) (ys : List SlotRow) (x : Frame) (xs : List Frame) (b : Bool) → length ys ≤ length (place_frames ys xs) → length ys ≤ length (place_frames ys (x ∷ xs))
    → length (y ∷ ys) ≤ length (cond b (slot_with x y ∷ place_frames ys xs) (y ∷ place_frames ys (x ∷ xs)))
first_count y ys x xs true used kept = omega arith
first_count y ys x xs false used kept = omega arith

-- no slot goes
pub placed_count : (ss : List SlotRow) (xs : List Frame) → length ss ≤ length (place_frames ss xs)
placed_count [] xs = omega arith
placed_count (y ∷ ys) [] = omega arith
placed_count (y ∷ ys) (x ∷ xs) = first_count y ys x xs (is_free y) (placed_count ys xs) (placed_count ys (x ∷ xs))

-- ---- a job's frames wait

frames_wait : (job layer position : ℕ) (numbers : List ℤ) → list_all waits (frames_from job layer position numbers) ≡ true
frames_wait job layer position [] = refl
frames_wait job layer position (n ∷ ns) = frames_wait job layer (position + 1) ns

pub job_waits : (job place : ℕ) (ls : List LayerSpec) → list_all waits (frames_of job place ls) ≡ true
job_waits job place [] = refl
job_waits job place (l ∷ ls) =
    list_all-append waits (frames_from job place 0 l.numbers) (frames_of job (place + 1) ls) ∙ both_true (frames_wait job place 0 l.numbers) (job_waits job (place + 1) ls)

-- ---- sound

-- a waiting frame has no attempt
pub waiting_attempt : (place version : ℕ) (state : FrameState) → is_waiting state ≡ true → IsAttemptOf place version state None
waiting_attempt place version Waiting h = tt
waiting_attempt place version Setup h = tt
waiting_attempt place version Running h = absurd (false≢true h)
waiting_attempt place version Succeeded h = tt
waiting_attempt place version Depend h = tt
waiting_attempt place version Dead h = tt
waiting_attempt place version Eaten h = tt

filled_attempt : (place version : ℕ) (frame : Option Frame) (proc : Option ProcRow) (x : Frame) → is_none frame ≡ true → waits x ≡ true
    → HasItsAttempt place version frame proc → HasItsAttempt place version (Some x) proc
filled_attempt place version None None x free w h = waiting_attempt place version x.state w
filled_attempt place version None (Some p) x free w h = absurd h
filled_attempt place version (Some frame) proc x free w h = absurd (false≢true free)

-- a free slot has no frame
pub free_none : (s : SlotRow) → is_free s ≡ true → is_none s.frame ≡ true
free_none s free = (and_both (is_none s.frame) (nat_below s) free).0
  where
    nat_below : SlotRow → Bool
    nat_below s = ltb s.version LAST_VERSION

-- the farm with frames placed
abbrev pub placed : Farm → List Frame → Farm
placed f xs = record f { slots = place_frames f.slots xs }

pub placed_sound : (f : Farm) (xs : List Frame) → list_all waits xs ≡ true → IsSound f → IsSound (placed f xs)
placed_sound f xs all ok =
    record {
      cores = λ n row at. omega (arith, placed_sum (cores_on n) refl f.slots xs, ok.cores n row at);
      memory = λ n row at. omega (arith, placed_sum (memory_on n) refl f.slots xs, ok.memory n row at);
      attempts =
          placed_each (λ i s. HasItsAttempt i s.version s.frame s.proc) f.slots xs all ok.attempts
          (λ i s x at free w. filled_attempt i s.version s.frame s.proc x (free_none s free) w (ok.attempts i s at))
          (λ i x past w. waiting_attempt i 0 x.state w);
    }

pub placed_hosts : (f : Farm) (xs : List Frame) → list_all waits xs ≡ true → HasItsHosts f → HasItsHosts (placed f xs)
placed_hosts f xs all there =
    placed_each (λ i s. OnHostOf (length f.hosts) s.proc) f.slots xs all there (λ i s x at free w. there i s at) (λ i x past w. tt)

-- ---- the step

pub submit_sound : (f : Farm) (spec : JobSpec) (o : Option ℕ) → IsSound f → IsSound (after_submit f spec o)
submit_sound f spec None ok = ok
submit_sound f spec (Some show) ok =
    let new = placed_sound f (frames_of f.next_job 0 spec.layers) (job_waits f.next_job 0 spec.layers) ok in
    record { cores = new.cores; memory = new.memory; attempts = new.attempts }

pub submit_hosts : (f : Farm) (spec : JobSpec) (o : Option ℕ) → HasItsHosts f → HasItsHosts (after_submit f spec o)
submit_hosts f spec None there = there
submit_hosts f spec (Some show) there = placed_hosts f (frames_of f.next_job 0 spec.layers) (job_waits f.next_job 0 spec.layers) there

-- ---- what a submit keeps

no_job : (frame : Option Frame) (n : ℕ) → is_none frame ≡ true → frame_job frame ≡ Some n → ⊥
no_job None n free has = none-some n has
no_job (Some frame) n free has = false≢true free

-- a free slot that is given a frame stays
filled_stays : (x : Frame) (s : SlotRow) → is_free s ≡ true → SlotStays s (slot_with x s)
filled_stays x s free = record { version = omega arith; proc = λ e none. none; job = λ e below n has. absurd (no_job s.frame n (free_none s free) has) }

first_stays : (y : SlotRow) (ys : List SlotRow) (x : Frame) (xs : List Frame) (b : Bool) → is_free y ≡ b → EachStays SlotStays ys (place_frames ys xs) → EachStays SlotStays ys (place_frames ys (x ∷ xs))
    → EachStays SlotStays (y ∷ ys) (cond b (slot_with x y ∷ place_frames ys xs) (y ∷ place_frames ys (x ∷ xs)))
first_stays y ys x xs true free used kept zero s at = (slot_with x y, refl, subst (λ (z : SlotRow). SlotStays z (slot_with x y)) (same_Some y s at) (filled_stays x y free))
first_stays y ys x xs true free used kept (suc i) s at = used i s at
first_stays y ys x xs false free used kept zero s at = (s, at, slot_same s)
first_stays y ys x xs false free used kept (suc i) s at = kept i s at

pub placed_stays : (ss : List SlotRow) (xs : List Frame) → EachStays SlotStays ss (place_frames ss xs)
placed_stays [] xs i s at = absurd (none-some s at)
placed_stays (y ∷ ys) [] i s at = (s, at, slot_same s)
placed_stays (y ∷ ys) (x ∷ xs) i s at = first_stays y ys x xs (is_free y) refl (placed_stays ys xs) (placed_stays ys (x ∷ xs)) i s at

-- a pending job is none that goes
pub stays_there : (name : List ℕ) (job : JobRow) → is_pending job.state ≡ true → not (is_finished_named name job) ≡ true
stays_there name job pending = ap (λ (b : Bool). not (not b && bytes_eq job.name name)) pending

-- a pending job that is there is found before one that is added
pub added_jobs_stay : (jobs more : List JobRow) (name : List ℕ) → JobsStay jobs (without_finished name jobs ++ more)
added_jobs_stay jobs more name n job at pending =
    let test = λ (j : JobRow). eqb j.job n in
    let found = found_kept test (λ j. not (is_finished_named name j)) jobs job at (stays_there name job pending) in
    (job, find-append test (without_finished name jobs) more ∙ ap (λ (o : Option JobRow). option_or o (find test more)) found, refl, refl, pending)

pub submit_law : (f : Farm) (spec : JobSpec) (o : Option ℕ) → KeepsLaw f (after_submit f spec o)
submit_law f spec None = law_same f
submit_law f spec (Some show) =
    record {
      sound = λ ok there. submit_sound f spec (Some show) ok;
      hosts = λ ok there. submit_hosts f spec (Some show) there;
      rows =
          record {
            slots = placed_stays f.slots (frames_of f.next_job 0 spec.layers);
            hosts = hosts_same f.hosts;
            allocs = allocs_same f.allocs;
            jobs = added_jobs_stay f.jobs (job_row f.next_job show spec ∷ []) spec.name;
          };
    }
