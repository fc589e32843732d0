-- A job that isn't refused is placed: its frames have slots, and the book stays in order.
use Rattle.std.proofs.Common.{◌≡◌, ℕ, suc, ◌+◌, ◌-◌, ◌*◌, ◌<◌, ◌≤◌, ◌&&◌, ◌||◌, not, Bool, true, false, cond, eqb, List, [], ◌∷◌, ◌++◌, length, map, filter, Option, Some, None, is_none, ℤ, refl, sym, ap, subst, ◌∙◌, arith, append-nil}
use Rattle.std.specs.Prelude.{nat_le, nat_lt}
use Rattle.std.specs.List.{sum_by, list_all, list_any, All}
use Rattle.std.proofs.lemmas.List.{map_push, length-map}
use Rattle.std.proofs.lemmas.List.Folds.{list_all-append}
use Rattle.std.proofs.lemmas.List.Sums.{sum_by-cons, sum_by-append}
use Rattle.std.proofs.lemmas.Bool.{false≢true, ltb-false, ltb-true, lt-ltb, lt-leb, le-leb, leb-false, eq-eqb, ne_eqb, and_from}
use Rattle.farm_types.specs.declared.job.JobSpec.{JobSpec}
use Rattle.farm_types.specs.declared.job.LayerSpec.{LayerSpec}
use Rattle.farm_types.specs.declared.rows.JobRow.{JobRow}
use Rattle.farm_types.specs.declared.rows.LayerRow.{LayerRow}
use Rattle.farm_types.specs.declared.slot_row.Frame.{Frame}
use Rattle.farm_types.specs.declared.slot_row.SlotRow.{SlotRow}
use Rattle.farm_types.specs.declared.states.FrameState.{FrameState}
use Rattle.farm_types.specs.declared.states.FrameState.TheVariants.{Waiting, Setup, Running, Succeeded, Depend, Dead, Eaten}
use Rattle.farm_types.specs.Booking.{is_pending}
use Rattle.farm_types.specs.Farm.{for_some}
use Rattle.farm_types.specs.Finish.{is_finished, is_frame_of}
use Rattle.farm_types.specs.Jobs.{JobLists, is_free, free_among, free_in, slot_with, fresh_slot, place_frames, new_frame, frames_from, frames_of, job_row, layer_rows, job_refusal, layers_refusal, room_refusal, repeated_name, is_pending_named}
use Rattle.farm_types.specs.Jobs.{frames_in}
use Rattle.farm_types.specs.SpecLimits.{JobKeepsLimits, LayerKeepsLimits}
use Rattle.job_book.specs.Book.{is_in, count_in, counts_of, with_new_job}
use Rattle.job_entries.specs.Counting.{number_of, part, new_counts}
use Rattle.job_entries.specs.Entries.{are_layers}
use Rattle.job_book.specs.Finished.{KeepsFinished, finish_key, has_finish}
use Rattle.job_index.specs.Keys.{sorted}
use Rattle.std.proofs.lemmas.List.Elements.{filter-append}
use Rattle.farm_types.specs.Rising.{IsRising, job_key}
use Rattle.job_book.specs.Inside.{IsBook, layer_key, is_below, counts_for, taken_by, has_slots, has_layers_if, frames_left}
use Rattle.job_book.proofs.PlacementLemmas.FreeSlots.{free_cons}
use Rattle.farm_types.proofs.Lists.{and_both}
use Rattle.farm_law.proofs.KeptJobsLists.{rising-append}
use Rattle.job_book.proofs.PlacementLemmas.Putting.{length-frames_of}
use Rattle.job_book.proofs.InState.{same_counts, part_is}
use Rattle.farm_types.specs.declared.limits.TheConstants.{LAST_JOB, LAST_VERSION, SLOT_LIMIT}
use Rattle.job_book.specs.declared.jobs.TheConstants.{PLACE_LIMIT}

-- ---- how many slots there are, and how many of them are free

free_mapped : (frames : List Frame) → free_among (map fresh_slot frames) ≡ 0
free_mapped [] = refl
free_mapped (x ∷ xs) = omega (arith, free_cons false (fresh_slot x) (map fresh_slot xs) refl, free_mapped xs)

-- the slots are as many, and as many more as there are frames beyond the free ones
record Fill (slots : List SlotRow) (frames : List Frame) : Type 0 where
  long : length (place_frames slots frames) ≡ length slots + (length frames - free_among slots)
  free : free_among (place_frames slots frames) ≡ free_among slots - length frames

fill_step : (b : Bool) (s : SlotRow) (ss : List SlotRow) (x : Frame) (xs : List Frame) → is_free s ≡ b → Fill ss xs → Fill ss (x ∷ xs) → Fill (s ∷ ss) (x ∷ xs)
fill_step true s ss x xs is here later =
    let placed : place_frames (s ∷ ss) (x ∷ xs) ≡ slot_with x s ∷ place_frames ss xs = rw is refl in
    let had = free_cons true s ss is in
    record {
      long = ap length placed ∙ omega (arith, had, here.long);
      free = ap free_among placed ∙ omega (arith, had, here.free, free_cons false (slot_with x s) (place_frames ss xs) refl);
    }
fill_step false s ss x xs is here later =
    let placed : place_frames (s ∷ ss) (x ∷ xs) ≡ s ∷ place_frames ss (x ∷ xs) = rw is refl in
    let had = free_cons false s ss is in
    record {
      long = ap length placed ∙ omega (arith, had, later.long);
      free = ap free_among placed ∙ omega (arith, had, later.free, free_cons false s (place_frames ss (x ∷ xs)) is);
    }

fill : (slots : List SlotRow) (frames : List Frame) → Fill slots frames
fill [] frames = record { long = omega (arith, length-map frames fresh_slot); free = omega (arith, free_mapped frames) }
fill (s ∷ ss) [] = record { long = omega arith; free = omega arith }
fill (s ∷ ss) (x ∷ xs) = fill_step (is_free s) s ss x xs refl (fill ss xs) (fill ss (x ∷ xs))

-- ---- what holds of frames and slots

none_is : {X : Type 0} (o : Option X) → is_none o ≡ true → o ≡ None
none_is None h = refl
none_is (Some x) h = absurd (false≢true h)

pub no_frame : (s : SlotRow) → is_free s ≡ true → s.frame ≡ None
no_frame s free = none_is s.frame (and_both (is_none s.frame) (nat_lt s.version LAST_VERSION) free).0

module _ (test : Option Frame → Bool) where
  all_step : (b : Bool) (s : SlotRow) (ss : List SlotRow) (x : Frame) (xs : List Frame) → is_free s ≡ b → test s.frame ≡ true → test (Some x) ≡ true
      → list_all (λ (r : SlotRow). test r.frame) (place_frames ss xs) ≡ true → list_all (λ (r : SlotRow). test r.frame) (place_frames ss (x ∷ xs)) ≡ true
      → list_all (λ (r : SlotRow). test r.frame) (place_frames (s ∷ ss) (x ∷ xs)) ≡ true
  all_step true s ss x xs free was is here later = rw (free, is) here
  all_step false s ss x xs free was is here later = rw (free, was) later

  all_fresh : (frames : List Frame) → list_all (λ (x : Frame). test (Some x)) frames ≡ true → list_all (λ (r : SlotRow). test r.frame) (map fresh_slot frames) ≡ true
  all_fresh [] new = refl
  all_fresh (x ∷ xs) new =
      let both = and_both (test (Some x)) (list_all (λ (y : Frame). test (Some y)) xs) new in
      and_from (test (Some x)) (list_all (λ (r : SlotRow). test r.frame) (map fresh_slot xs)) both.0 (all_fresh xs both.1)

  pub all_placed : (slots : List SlotRow) (frames : List Frame) → list_all (λ (r : SlotRow). test r.frame) slots ≡ true → list_all (λ (x : Frame). test (Some x)) frames ≡ true
      → list_all (λ (r : SlotRow). test r.frame) (place_frames slots frames) ≡ true
  all_placed [] frames old new = all_fresh frames new
  all_placed (s ∷ ss) [] old new = old
  all_placed (s ∷ ss) (x ∷ xs) old new =
      let was = and_both (test s.frame) (list_all (λ (r : SlotRow). test r.frame) ss) old in
      let is = and_both (test (Some x)) (list_all (λ (y : Frame). test (Some y)) xs) new in
      all_step (is_free s) s ss x xs refl was.0 is.0 (all_placed ss xs was.1 is.1) (all_placed ss (x ∷ xs) was.1 new)

  pub all_from : (job layer p : ℕ) (ns : List ℤ) → ((q : ℕ) (n : ℤ) → test (Some (new_frame job layer q n)) ≡ true) → list_all (λ (x : Frame). test (Some x)) (frames_from job layer p ns) ≡ true
  all_from job layer p [] each = refl
  all_from job layer p (n ∷ ns) each = and_from (test (Some (new_frame job layer p n))) _ (each p n) (all_from job layer (p + 1) ns each)

  pub all_of : (job p : ℕ) (ls : List LayerSpec) → ((l q : ℕ) (n : ℤ) → test (Some (new_frame job l q n)) ≡ true) → list_all (λ (x : Frame). test (Some x)) (frames_of job p ls) ≡ true
  all_of job p [] each = refl
  all_of job p (l ∷ ls) each =
      list_all-append (λ (x : Frame). test (Some x)) (frames_from job p 0 l.numbers) (frames_of job (p + 1) ls) ∙ and_from _ _ (all_from job p 0 l.numbers (each p)) (all_of job (p + 1) ls each)

-- ---- what is counted

module _ (weight : Option Frame → ℕ) (nothing : weight None ≡ 0) where
  sum_step : (b : Bool) (s : SlotRow) (ss : List SlotRow) (x : Frame) (xs : List Frame) → is_free s ≡ b
      → sum_by (λ (r : SlotRow). weight r.frame) (place_frames ss xs) ≡ sum_by (λ (r : SlotRow). weight r.frame) ss + sum_by (λ (y : Frame). weight (Some y)) xs
      → sum_by (λ (r : SlotRow). weight r.frame) (place_frames ss (x ∷ xs)) ≡ sum_by (λ (r : SlotRow). weight r.frame) ss + sum_by (λ (y : Frame). weight (Some y)) (x ∷ xs)
      → sum_by (λ (r : SlotRow). weight r.frame) (place_frames (s ∷ ss) (x ∷ xs)) ≡ sum_by (λ (r : SlotRow). weight r.frame) (s ∷ ss) + sum_by (λ (y : Frame). weight (Some y)) (x ∷ xs)
  sum_step true s ss x xs free here later =
      let placed : place_frames (s ∷ ss) (x ∷ xs) ≡ slot_with x s ∷ place_frames ss xs = rw free refl in
      let had : weight s.frame ≡ 0 = ap weight (no_frame s free) ∙ nothing in
      ap (sum_by (λ (r : SlotRow). weight r.frame)) placed
      ∙ omega (arith, sum_by-cons (λ (r : SlotRow). weight r.frame) (slot_with x s) (place_frames ss xs), sum_by-cons (λ (r : SlotRow). weight r.frame) s ss, sum_by-cons (λ (y : Frame). weight (Some y)) x xs, had, here)
  sum_step false s ss x xs free here later =
      let placed : place_frames (s ∷ ss) (x ∷ xs) ≡ s ∷ place_frames ss (x ∷ xs) = rw free refl in
      ap (sum_by (λ (r : SlotRow). weight r.frame)) placed
      ∙ omega (arith, sum_by-cons (λ (r : SlotRow). weight r.frame) s (place_frames ss (x ∷ xs)), sum_by-cons (λ (r : SlotRow). weight r.frame) s ss, later)

  sum_fresh : (frames : List Frame) → sum_by (λ (r : SlotRow). weight r.frame) (map fresh_slot frames) ≡ sum_by (λ (y : Frame). weight (Some y)) frames
  sum_fresh [] = refl
  sum_fresh (x ∷ xs) =
      omega (arith, sum_by-cons (λ (r : SlotRow). weight r.frame) (fresh_slot x) (map fresh_slot xs), sum_by-cons (λ (y : Frame). weight (Some y)) x xs, sum_fresh xs)

  -- the placed frames weigh beside those that were there
  sum_placed : (slots : List SlotRow) (frames : List Frame) → sum_by (λ (r : SlotRow). weight r.frame) (place_frames slots frames) ≡ sum_by (λ (r : SlotRow). weight r.frame) slots + sum_by (λ (y : Frame). weight (Some y)) frames
  sum_placed [] frames = omega (arith, sum_fresh frames)
  sum_placed (s ∷ ss) [] = omega arith
  sum_placed (s ∷ ss) (x ∷ xs) = sum_step (is_free s) s ss x xs refl (sum_placed ss xs) (sum_placed ss (x ∷ xs))

sum_from : (weight : Frame → ℕ) (job layer p : ℕ) (ns : List ℤ) (k : ℕ) → ((l q : ℕ) (n : ℤ) → weight (new_frame job l q n) ≡ k) → sum_by weight (frames_from job layer p ns) ≡ length ns * k
sum_from weight job layer p [] k each = omega arith
sum_from weight job layer p (n ∷ ns) k each =
    omega (arith, sum_by-cons weight (new_frame job layer p n) (frames_from job layer (p + 1) ns), each layer p n, sum_from weight job layer (p + 1) ns k each)

sum_of : (weight : Frame → ℕ) (job p : ℕ) (ls : List LayerSpec) (k : ℕ) → ((l q : ℕ) (n : ℤ) → weight (new_frame job l q n) ≡ k) → sum_by weight (frames_of job p ls) ≡ frames_in ls * k
sum_of weight job p [] k each = omega arith
sum_of weight job p (l ∷ ls) k each =
    let all : frames_in (l ∷ ls) * k ≡ (length l.numbers + frames_in ls) * k = ap (λ m. m * k) (sum_by-cons (λ (m : LayerSpec). length m.numbers) l ls) in
    omega (arith, sum_by-append weight (frames_from job p 0 l.numbers) (frames_of job (p + 1) ls), sum_from weight job p 0 l.numbers k each, sum_of weight job (p + 1) ls k each, all)

-- the frames of a new job are counted for it alone, as waiting
pub count_placed : (slots : List SlotRow) (next : ℕ) (ls : List LayerSpec) (job : ℕ) (state : FrameState)
    → count_in job state (place_frames slots (frames_of next 0 ls)) ≡ count_in job state slots + frames_in ls * cond (eqb next job && eqb 0 (number_of state)) 1 0
count_placed slots next ls job state =
    let all = sum_placed (λ o. cond (for_some o (is_in job state)) 1 0) refl slots (frames_of next 0 ls) in
    let new = sum_of (λ (y : Frame). cond (is_in job state y) 1 0) next 0 ls (cond (eqb next job && eqb 0 (number_of state)) 1 0) (λ l q n. refl) in
    omega (arith, all, new)

-- as many slots more have a frame of the job
pub taken_placed : (slots : List SlotRow) (next : ℕ) (ls : List LayerSpec) (job : ℕ) → taken_by job (place_frames slots (frames_of next 0 ls)) ≡ taken_by job slots + frames_in ls * cond (eqb next job) 1 0
taken_placed slots next ls job =
    let all = sum_placed (λ o. cond (for_some o (λ (x : Frame). eqb x.job job)) 1 0) refl slots (frames_of next 0 ls) in
    let new = sum_of (λ (y : Frame). cond (eqb y.job job) 1 0) next 0 ls (cond (eqb next job) 1 0) (λ l q n. refl) in
    omega (arith, all, new)

-- a job that wasn't placed has no slot
below_taken : (o : Option Frame) (next job : ℕ) → next ≤ job → not (for_some o (λ x. nat_le next x.job)) ≡ true → ◌≡◌ {A = ℕ} (cond (for_some o (λ (x : Frame). eqb x.job job)) 1 0) 0
below_taken None next job later below = refl
below_taken (Some x) next job later below = apart_by (nat_le next x.job) refl below
  where
    apart_by : (b : Bool) → nat_le next x.job ≡ b → not (nat_le next x.job) ≡ true → ◌≡◌ {A = ℕ} (cond (eqb x.job job) 1 0) 0
    apart_by true is h = absurd (false≢true (rw is at h))
    apart_by false is h =
        let apart : eqb x.job job ≡ false = ne_eqb x.job job (λ e. absurd (omega (arith, leb-false next x.job is))) in
        rw apart refl

pub new_taken_none : (slots : List SlotRow) (next job : ℕ) → next ≤ job → list_all (is_below next) slots ≡ true → taken_by job slots ≡ 0
new_taken_none [] next job later below = refl
new_taken_none (s ∷ ss) next job later below =
    let both = and_both (is_below next s) (list_all (is_below next) ss) below in
    omega (arith, sum_by-cons (λ (r : SlotRow). cond (is_frame_of job r) 1 0) s ss, below_taken s.frame next job later both.0, new_taken_none ss next job later both.1)

-- a job that wasn't placed has no frame
below_frame : (o : Option Frame) (next job : ℕ) (state : FrameState) → next ≤ job → not (for_some o (λ x. nat_le next x.job)) ≡ true → ◌≡◌ {A = ℕ} (cond (for_some o (is_in job state)) 1 0) 0
below_frame None next job state later below = refl
below_frame (Some x) next job state later below = frame_apart (nat_le next x.job) refl below
  where
    frame_apart : (b : Bool) → nat_le next x.job ≡ b → not (nat_le next x.job) ≡ true → ◌≡◌ {A = ℕ} (cond (is_in job state x) 1 0) 0
    frame_apart true is h = absurd (false≢true (rw is at h))
    frame_apart false is h =
        let apart : eqb x.job job ≡ false = ne_eqb x.job job (λ e. absurd (omega (arith, leb-false next x.job is))) in
        rw apart refl

pub new_job_counts_none : (slots : List SlotRow) (next job : ℕ) (state : FrameState) → next ≤ job → list_all (is_below next) slots ≡ true → count_in job state slots ≡ 0
new_job_counts_none [] next job state later below = refl
new_job_counts_none (s ∷ ss) next job state later below =
    let both = and_both (is_below next s) (list_all (is_below next) ss) below in
    omega (arith, sum_by-cons (λ (r : SlotRow). cond (for_some r.frame (is_in job state)) 1 0) s ss, below_frame s.frame next job state later both.0, new_job_counts_none ss next job state later both.1)

-- ---- keys that rise

pub rising_within : {X : Type 0} (key : X → ℕ) (low : ℕ) (xs : List X) (high : ℕ) → IsRising key low xs high → low ≤ high
rising_within key low [] high rise = rise
rising_within key low (x ∷ xs) high rise = omega (arith, rise.0, rising_within key (key x + 1) xs high rise.1)

layers_rising : (job : ℕ) (layer_limits : List (Option ℕ)) (p : ℕ) (ls : List LayerSpec) → p + length ls ≤ PLACE_LIMIT → IsRising layer_key (PLACE_LIMIT * job + p) (layer_rows job layer_limits p ls) (PLACE_LIMIT * (job + 1))
layers_rising job layer_limits p [] few = omega arith
layers_rising job layer_limits p (l ∷ ls) few =
    let next : PLACE_LIMIT * job + p + 1 ≡ PLACE_LIMIT * job + (p + 1) = omega arith in
    (omega arith, subst (λ k. IsRising layer_key k (layer_rows job layer_limits (p + 1) ls) (PLACE_LIMIT * (job + 1))) (sym next) (layers_rising job layer_limits (p + 1) ls (omega arith)))

pub length-layer_rows : (job : ℕ) (layer_limits : List (Option ℕ)) (p : ℕ) (ls : List LayerSpec) → length (layer_rows job layer_limits p ls) ≡ length ls
length-layer_rows job layer_limits p [] = refl
length-layer_rows job layer_limits p (l ∷ ls) = ap suc (length-layer_rows job layer_limits (p + 1) ls)

-- each layer has a frame at least
pub layers_within : (ls : List LayerSpec) → All LayerKeepsLimits ls → length ls ≤ frames_in ls
layers_within [] each = omega arith
layers_within (l ∷ ls) each =
    let first = (each 0 l (omega arith)).some in
    let rest = layers_within ls (λ k d h. each (suc k) d (omega arith)) in
    omega (arith, sum_by-cons (λ (m : LayerSpec). length m.numbers) l ls, first, rest)

-- ---- what a job that isn't refused has

some_none : {X : Type 0} (x : X) → Some x ≡ None → ⊥
some_none x e = cc

left_step : (full over : Bool) (b : JobLists) (spec : JobSpec) → nat_lt (free_in b.slots) (frames_in spec.layers) ≡ full → nat_lt LAST_JOB b.next_job ≡ over → room_refusal b spec ≡ None
    → (frames_in spec.layers ≤ free_in b.slots) × (b.next_job ≤ LAST_JOB)
left_step true over b spec few many none = absurd (some_none _ (rw few at none))
left_step false true b spec few many none = absurd (some_none _ (rw (few, many) at none))
left_step false false b spec few many none = (ltb-false (free_in b.slots) (frames_in spec.layers) few, ltb-false LAST_JOB b.next_job many)

layers_step : (o : Option (List ℕ)) (b : JobLists) (spec : JobSpec) → layers_refusal b spec o ≡ None → room_refusal b spec ≡ None
layers_step None b spec none = none
layers_step (Some name) b spec none = absurd (some_none _ none)

accepted_fits_step : (c : Bool) (b : JobLists) (spec : JobSpec) → list_any (is_pending_named spec.name) b.jobs ≡ c → job_refusal b spec ≡ None → room_refusal b spec ≡ None
accepted_fits_step true b spec is none = absurd (some_none _ (rw is at none))
accepted_fits_step false b spec is none = layers_step (repeated_name [] spec.layers) b spec (rw is at none)

new_step : (c : Bool) (b : JobLists) (spec : JobSpec) → list_any (is_pending_named spec.name) b.jobs ≡ c → job_refusal b spec ≡ None → c ≡ false
new_step true b spec is none = absurd (some_none _ (rw is at none))
new_step false b spec is none = refl

-- no pending job has its name
pub accepted_new : (b : JobLists) (spec : JobSpec) → job_refusal b spec ≡ None → list_any (is_pending_named spec.name) b.jobs ≡ false
accepted_new b spec none = new_step (list_any (is_pending_named spec.name) b.jobs) b spec refl none

-- a slot for each frame, and a number
pub accepted_fits : (b : JobLists) (spec : JobSpec) → job_refusal b spec ≡ None → (frames_in spec.layers ≤ free_in b.slots) × (b.next_job ≤ LAST_JOB)
accepted_fits b spec none = left_step _ _ b spec refl refl (accepted_fits_step _ b spec refl none)

-- ---- the book with the job

below_later : (o : Option Frame) (next : ℕ) → not (for_some o (λ x. nat_le next x.job)) ≡ true → not (for_some o (λ x. nat_le (next + 1) x.job)) ≡ true
below_later None next h = refl
below_later (Some x) next h = less (nat_le next x.job) refl h
  where
    less : (b : Bool) → nat_le next x.job ≡ b → not (nat_le next x.job) ≡ true → not (nat_le (next + 1) x.job) ≡ true
    less true is h = absurd (false≢true (rw is at h))
    less false is h = let k : nat_le (next + 1) x.job ≡ false = lt-leb (next + 1) x.job (omega (arith, leb-false next x.job is)) in rw k refl

all_later : (slots : List SlotRow) (next : ℕ) → list_all (is_below next) slots ≡ true → list_all (is_below (next + 1)) slots ≡ true
all_later [] next h = refl
all_later (s ∷ ss) next h =
    let both = and_both (is_below next s) (list_all (is_below next) ss) h in
    and_from (is_below (next + 1) s) _ (below_later s.frame next both.0) (all_later ss next both.1)

module _ (b : JobLists) (show : ℕ) (layer_limits : List (Option ℕ)) (spec : JobSpec) (limits : JobKeepsLimits spec) (none : job_refusal b spec ≡ None) (ok : IsBook b) where
  abbrev pub placed_lists : JobLists
  placed_lists = with_new_job b show layer_limits spec

  abbrev frames : List Frame
  frames = frames_of b.next_job 0 spec.layers

  pub placed_free : free_in placed_lists.slots + frames_in spec.layers ≡ free_in b.slots
  placed_free =
      let f = fill b.slots frames in
      omega (arith, f.long, f.free, length-frames_of b.next_job 0 spec.layers, (accepted_fits b spec none).0, ok.slot_count)

  placed_slot_count : length placed_lists.slots ≤ SLOT_LIMIT
  placed_slot_count =
      let f = fill b.slots frames in
      omega (arith, f.long, f.free, length-frames_of b.next_job 0 spec.layers, (accepted_fits b spec none).0, ok.slot_count)

  new_below : list_all (λ (x : Frame). not (nat_le (b.next_job + 1) x.job)) frames ≡ true
  new_below =
      let k : nat_le (b.next_job + 1) b.next_job ≡ false = lt-leb (b.next_job + 1) b.next_job (omega arith) in
      all_of (λ o. not (for_some o (λ x. nat_le (b.next_job + 1) x.job))) b.next_job 0 spec.layers (λ l q n. rw k refl)

  -- earlier jobs have the slots that they had
  had_kept : (low : ℕ) (js : List JobRow) → IsRising job_key low js b.next_job → list_all (has_slots b.slots) js ≡ true → list_all (has_slots placed_lists.slots) js ≡ true
  had_kept low [] rise all = refl
  had_kept low (j ∷ js) rise all =
      let both = and_both (has_slots b.slots j) (list_all (has_slots b.slots) js) all in
      let apart : eqb b.next_job j.job ≡ false = ne_eqb b.next_job j.job (λ e. absurd (omega (arith, e, rising_within job_key (j.job + 1) js b.next_job rise.1))) in
      let e = rw apart at (taken_placed b.slots b.next_job spec.layers j.job) in
      let same : taken_by j.job placed_lists.slots ≡ taken_by j.job b.slots = omega (arith, e) in
      and_from (has_slots placed_lists.slots j) _ (ap (λ (n : ℕ). cond (is_pending j.state) (nat_lt 0 j.frames && nat_le n j.frames) (eqb n 0)) same ∙ both.0) (had_kept (j.job + 1) js rise.1 both.1)

  new_had : has_slots placed_lists.slots (job_row b.next_job show spec) ≡ true
  new_had =
      let itself : eqb b.next_job b.next_job ≡ true = eq-eqb b.next_job b.next_job refl in
      let e = rw itself at (taken_placed b.slots b.next_job spec.layers b.next_job) in
      let none = new_taken_none b.slots b.next_job b.next_job (omega arith) ok.frames_below in
      and_from (nat_lt 0 (frames_in spec.layers)) _ (lt-ltb 0 (frames_in spec.layers) (omega (arith, limits.frames_within.0))) (le-leb (taken_by b.next_job placed_lists.slots) (frames_in spec.layers) (omega (arith, e, none)))

  -- new layers are of the new job alone
  other_rows : (job p : ℕ) (ls : List LayerSpec) → eqb b.next_job job ≡ false → list_any (λ (l : LayerRow). eqb l.job job) (layer_rows b.next_job layer_limits p ls) ≡ false
  other_rows job p [] apart = refl
  other_rows job p (l ∷ ls) apart = rw apart (other_rows job (p + 1) ls apart)

  any_both : (test : LayerRow → Bool) (xs ys : List LayerRow) → list_any test ys ≡ false → list_any test (xs ++ ys) ≡ list_any test xs
  any_both test [] ys none = none
  any_both test (x ∷ xs) ys none = ap (λ (c : Bool). test x || c) (any_both test xs ys none)

  owned_kept : (low : ℕ) (js : List JobRow) → IsRising job_key low js b.next_job → list_all (has_layers_if b.layers) js ≡ true → list_all (has_layers_if placed_lists.layers) js ≡ true
  owned_kept low [] rise all = refl
  owned_kept low (j ∷ js) rise all =
      let both = and_both (has_layers_if b.layers j) (list_all (has_layers_if b.layers) js) all in
      let apart : eqb b.next_job j.job ≡ false = ne_eqb b.next_job j.job (λ e. absurd (omega (arith, e, rising_within job_key (j.job + 1) js b.next_job rise.1))) in
      let same = any_both (λ (l : LayerRow). eqb l.job j.job) b.layers (layer_rows b.next_job layer_limits 0 spec.layers) (other_rows j.job 0 spec.layers apart) in
      and_from (has_layers_if placed_lists.layers j) _ (ap (λ (c : Bool). is_pending j.state || not c) same ∙ both.0) (owned_kept (j.job + 1) js rise.1 both.1)

  pub placed_book : IsBook placed_lists
  placed_book =
      let last = (accepted_fits b spec none).1 in
      let free = placed_free in
      let from : PLACE_LIMIT * b.next_job + 0 ≡ PLACE_LIMIT * b.next_job = omega arith in
      record {
        slot_count = placed_slot_count;
        next_within = omega (arith, last);
        jobs_rise = rising-append job_key 0 b.next_job (b.next_job + 1) b.jobs (job_row b.next_job show spec ∷ []) ok.jobs_rise (omega arith, omega arith);
        layers_rise =
            rising-append layer_key 0 (PLACE_LIMIT * b.next_job) (PLACE_LIMIT * (b.next_job + 1)) b.layers (layer_rows b.next_job layer_limits 0 spec.layers) ok.layers_rise
            (subst (λ k. IsRising layer_key k (layer_rows b.next_job layer_limits 0 spec.layers) (PLACE_LIMIT * (b.next_job + 1))) from (layers_rising b.next_job layer_limits 0 spec.layers (omega (arith, limits.layers_within.1))));
        layers_owned = list_all-append (has_layers_if placed_lists.layers) b.jobs (job_row b.next_job show spec ∷ []) ∙ and_from _ _ (owned_kept 0 b.jobs ok.jobs_rise ok.layers_owned) refl;
        frames_below = all_placed (λ o. not (for_some o (λ x. nat_le (b.next_job + 1) x.job))) b.slots frames (all_later b.slots b.next_job ok.frames_below) new_below;
        slots_had = list_all-append (has_slots placed_lists.slots) b.jobs (job_row b.next_job show spec ∷ []) ∙ and_from _ _ (had_kept 0 b.jobs ok.jobs_rise ok.slots_had) (and_from _ _ new_had refl);
        jobs_fit = omega (arith, free, ok.jobs_fit, sum_by-append frames_left b.jobs (job_row b.next_job show spec ∷ []), sum_by-cons frames_left (job_row b.next_job show spec) []);
      }

  counts_before : (job : ℕ) → job < b.next_job → counts_of job placed_lists.slots ≡ counts_of job b.slots
  counts_before job before =
      same_counts (counts_of job placed_lists.slots) (counts_of job b.slots) (λ st.
      let apart : eqb b.next_job job ≡ false = ne_eqb b.next_job job (λ e. absurd (omega arith)) in
      let e = rw apart at (count_placed b.slots b.next_job spec.layers job st) in
      let same : count_in job st placed_lists.slots ≡ count_in job st b.slots = omega (arith, e) in
      part_is job placed_lists.slots st ∙ same ∙ sym (part_is job b.slots st))

  counts_new : counts_of b.next_job placed_lists.slots ≡ new_counts (frames_in spec.layers)
  counts_new =
      same_counts (counts_of b.next_job placed_lists.slots) (new_counts (frames_in spec.layers)) (λ st.
      let itself : eqb b.next_job b.next_job ≡ true = eq-eqb b.next_job b.next_job refl in
      let e = rw itself at (count_placed b.slots b.next_job spec.layers b.next_job st) in
      let had = new_job_counts_none b.slots b.next_job b.next_job st (omega arith) ok.frames_below in
      let is : count_in b.next_job st placed_lists.slots ≡ frames_in spec.layers * cond (eqb 0 (number_of st)) 1 0 = omega (arith, e, had) in
      part_is b.next_job placed_lists.slots st ∙ is ∙ new_part st)
    where
      new_part : (st : FrameState) → frames_in spec.layers * cond (eqb 0 (number_of st)) 1 0 ≡ part st (new_counts (frames_in spec.layers))
      new_part Waiting = omega arith
      new_part Setup = omega arith
      new_part Running = omega arith
      new_part Succeeded = omega arith
      new_part Depend = omega arith
      new_part Dead = omega arith
      new_part Eaten = omega arith

  counts_kept : (low : ℕ) (js : List JobRow) → IsRising job_key low js b.next_job → counts_for js placed_lists.slots ≡ counts_for js b.slots
  counts_kept low [] rise = refl
  counts_kept low (j ∷ js) rise =
      let before : j.job < b.next_job = omega (arith, rising_within job_key (j.job + 1) js b.next_job rise.1) in
      rw (counts_before j.job before, counts_kept (j.job + 1) js rise.1) refl

  pub placed_counts : counts_for placed_lists.jobs placed_lists.slots ≡ counts_for b.jobs b.slots ++ new_counts (frames_in spec.layers) ∷ []
  placed_counts =
      map_push (λ (j : JobRow). counts_of j.job placed_lists.slots) b.jobs (job_row b.next_job show spec)
      ∙ ap (λ cs. cs ++ counts_of b.next_job placed_lists.slots ∷ []) (counts_kept 0 b.jobs ok.jobs_rise) ∙ ap (λ c. counts_for b.jobs b.slots ++ c ∷ []) counts_new

-- the rows of a job's layers are its own, in order
pub rows_are_layers : (job : ℕ) (layer_limits : List (Option ℕ)) (p : ℕ) (ls : List LayerSpec) → are_layers job p (layer_rows job layer_limits p ls) ≡ true
rows_are_layers job layer_limits p [] = refl
rows_are_layers job layer_limits p (l ∷ ls) = rw (eq-eqb job job refl, eq-eqb p p refl) (rows_are_layers job layer_limits (p + 1) ls)

-- the new job isn't finished
pub placed_finished : (b : JobLists) (show : ℕ) (spec : JobSpec) (keys : List ℕ) → KeepsFinished b.jobs keys → KeepsFinished (b.jobs ++ job_row b.next_job show spec ∷ []) keys
placed_finished b show spec keys keeps =
    let same : filter is_finished (b.jobs ++ job_row b.next_job show spec ∷ []) ≡ filter is_finished b.jobs = filter-append is_finished b.jobs (job_row b.next_job show spec ∷ []) ∙ append-nil (filter is_finished b.jobs) in
    record {
      keys_are = keeps.keys_are ∙ ap (λ (js : List JobRow). sorted (map finish_key js)) (sym same);
      within = list_all-append has_finish b.jobs (job_row b.next_job show spec ∷ []) ∙ and_from _ _ keeps.within refl;
    }

-- ---- how many jobs there are

few_step : (c : Bool) (slots : List SlotRow) (j : JobRow) (js : List JobRow) → is_pending j.state ≡ c → has_slots slots j ≡ true → length js ≤ sum_by frames_left js + length (filter is_finished js)
    → length (j ∷ js) ≤ sum_by frames_left (j ∷ js) + length (filter is_finished (j ∷ js))
few_step true slots j js is had later =
    let both = and_both (nat_lt 0 j.frames) (nat_le (taken_by j.job slots) j.frames) (rw is at had) in
    let left : frames_left j ≡ j.frames = rw is refl in
    let done : filter is_finished (j ∷ js) ≡ filter is_finished js = rw is refl in
    omega (arith, sum_by-cons frames_left j js, left, ap (λ (ks : List JobRow). length ks) done, ltb-true 0 j.frames both.0, later)
few_step false slots j js is had later =
    let done : filter is_finished (j ∷ js) ≡ j ∷ filter is_finished js = rw is refl in
    omega (arith, sum_by-cons frames_left j js, ap (λ (ks : List JobRow). length ks) done, later)

-- each pending job has a frame
pub rows_few : (slots : List SlotRow) (jobs : List JobRow) → list_all (has_slots slots) jobs ≡ true → length jobs ≤ sum_by frames_left jobs + length (filter is_finished jobs)
rows_few slots [] all = omega arith
rows_few slots (j ∷ js) all =
    let both = and_both (has_slots slots j) (list_all (has_slots slots) js) all in
    few_step (is_pending j.state) slots j js refl both.0 (rows_few slots js both.1)

-- lists that are those of a book
pub book_from : (b : JobLists) (jobs : List JobRow) (layers : List LayerRow) (slots : List SlotRow) (next finish : ℕ) → jobs ≡ b.jobs → layers ≡ b.layers → slots ≡ b.slots → next ≡ b.next_job → finish ≡ b.next_finish
    → IsBook b → IsBook (record { jobs = jobs; layers = layers; slots = slots; next_job = next; next_finish = finish })
book_from b jobs layers slots next finish e0 e1 e2 e3 e4 ok = rw (e0, e1, e2, e3, e4) ok
