-- The rows that a farm keeps make a book.
use Rattle.std.proofs.Common.{◌≡◌, ℕ, suc, ◌+◌, ◌*◌, ◌<◌, ◌≤◌, ◌&&◌, ◌||◌, not, Bool, true, false, cond, eqb, ltb, List, [], ◌∷◌, length, Option, Some, None, is_none, refl, sym, ap, ◌∙◌, inl, inr, arith}
use Rattle.std.specs.Prelude.{nat_le, nat_lt}
use Rattle.std.specs.List.{find, list_all, list_any, slice_get, sum_by}
use Rattle.std.proofs.lemmas.Bool.{cases_lt, false≢true, eq-eqb, eqb-true, ne_eqb, lt-ltb, ltb-true, le-leb, leb-true, and_from}
use Rattle.std.proofs.lemmas.List.Sums.{sum_by-cons}
use Rattle.farm_types.specs.declared.limits.TheConstants.{LAST_VERSION, MOST_FRAMES, MOST_LAYERS, MOST_PRIORITY, MOST_RETRIES}
use Rattle.farm_types.specs.declared.rows.JobRow.{JobRow}
use Rattle.farm_types.specs.declared.rows.LayerRow.{LayerRow}
use Rattle.farm_types.specs.declared.slot_row.Frame.{Frame}
use Rattle.farm_types.specs.declared.slot_row.SlotRow.{SlotRow}
use Rattle.farm_types.specs.Booking.{is_pending}
use Rattle.farm_types.specs.Farm.{for_some, for_any, layer_in}
use Rattle.farm_types.specs.Finish.{is_frame_of}
use Rattle.farm_types.specs.Forms.{is_between, is_name_or_empty, is_name_text, is_tag_text}
use Rattle.farm_types.specs.Jobs.{JobLists, free_among, is_free}
use Rattle.farm_types.specs.Kept.{KeepsJobs, has_its_finish, is_formed_job, is_formed_layer, is_kept_frame, is_kept_slot, is_of_pending, is_pending_job}
use Rattle.farm_types.specs.Rising.{IsRising, job_key}
use Rattle.farm_types.specs.Rising.{layer_key as kept_key}
use Rattle.farm_types.proofs.Lists.{and_both, find_passes, for_some_true, found_is, list_all-at, list_all-from_at}
use Rattle.farm_types.proofs.ListSums.{sum_by-each_zero}
use Rattle.farm_law.proofs.FinishedCounts.{own_frames}
use Rattle.farm_law.proofs.FormedParts.{layer_formed}
use Rattle.farm_law.proofs.KeptJobsLists.{rising_lower}
use Rattle.farm_law.proofs.KeptJobsRows.{frame_kept}
use Rattle.job_book.specs.Finished.{has_finish}
use Rattle.job_book.specs.Inside.{IsBook, frames_left, has_layers_if, has_slots, is_below, layer_key, taken_by}
use Rattle.job_book.specs.Ready.{has_priority}
use Rattle.job_book.specs.declared.jobs.TheConstants.{PLACE_LIMIT}
use Rattle.job_index.specs.declared.limits.TheConstants.{MOST_JOBS}
use Rattle.job_index.specs.declared.ready_jobs.TheConstants.{JOB_NUMBERS}
use Rattle.job_book.proofs.EndingLemmas.LeftJobs.{find_numbered}
use Rattle.job_book.proofs.PlacementLemmas.Placed.{rising_within, rows_few}

-- ---- layers by the book's keys

key_step : (j p k q : ℕ) → p < MOST_LAYERS → q < MOST_LAYERS → MOST_LAYERS * j + p + 1 ≤ MOST_LAYERS * k + q → PLACE_LIMIT * j + p + 1 ≤ PLACE_LIMIT * k + q
key_step j p k q first second above =
    elim (cases_lt j k) [
      | inl less ↦ omega (arith, less, first, second)
      | inr more ↦ let same : j ≤ k = omega (arith, above, first, second) in omega (arith, above, same, more)
    ]

key_end : (j p high : ℕ) → p < MOST_LAYERS → MOST_LAYERS * j + p + 1 ≤ MOST_LAYERS * high → PLACE_LIMIT * j + p + 1 ≤ PLACE_LIMIT * high
key_end j p high within above =
    let less : j + 1 ≤ high = omega (arith, above) in
    omega (arith, less, within)

rekeyed : (low from : ℕ) (ls : List LayerRow) (high : ℕ) → list_all is_formed_layer ls ≡ true
    → ((l : LayerRow) → l.place < MOST_LAYERS → low ≤ kept_key l → from ≤ layer_key l) → (low ≤ MOST_LAYERS * high → from ≤ PLACE_LIMIT * high)
    → IsRising kept_key low ls (MOST_LAYERS * high) → IsRising layer_key from ls (PLACE_LIMIT * high)
rekeyed low from [] high formed step last rise = last rise
rekeyed low from (l ∷ ls) high formed step last rise =
    let both = and_both (is_formed_layer l) (list_all is_formed_layer ls) formed in
    let within = (layer_formed l both.0).place in (
      step l within rise.0,
      rekeyed (kept_key l + 1) (layer_key l + 1) ls high both.1
          (λ k below above. key_step l.job l.place k.job k.place within below above)
          (λ above. key_end l.job l.place high within above) rise.1,
    )

-- ---- sums over jobs and slots

sum_both : {X : Type 0} (first second both : X → ℕ) (xs : List X) → ((x : X) → both x ≡ first x + second x) → sum_by both xs ≡ sum_by first xs + sum_by second xs
sum_both first second both [] each = refl
sum_both first second both (x ∷ xs) each = omega (arith, sum_by-cons first x xs, sum_by-cons second x xs, sum_by-cons both x xs, each x, sum_both first second both xs each)

sum_alike : {X : Type 0} (weight other : X → ℕ) (xs : List X) → ((i : ℕ) (x : X) → slice_get xs i ≡ Some x → weight x ≡ other x) → sum_by weight xs ≡ sum_by other xs
sum_alike weight other [] each = refl
sum_alike weight other (x ∷ xs) each = omega (arith, sum_by-cons weight x xs, sum_by-cons other x xs, each 0 x refl, sum_alike weight other xs (λ i y at. each (suc i) y at))

-- how many of these jobs have the frame
abbrev owner : Option Frame → JobRow → ℕ
owner frame j = cond (for_some frame (λ (x : Frame). eqb x.job j.job)) 1 0

owners_none : (x : Frame) (low : ℕ) (js : List JobRow) (high : ℕ) → x.job < low → IsRising job_key low js high → sum_by (owner (Some x)) js ≡ 0
owners_none x low [] high below rise = refl
owners_none x low (j ∷ js) high below rise =
    let apart : eqb x.job j.job ≡ false = ne_eqb x.job j.job (λ e. absurd (omega (arith, e, below, rise.0))) in
    let none : owner (Some x) j ≡ 0 = rw apart refl in
    omega (arith, sum_by-cons (owner (Some x)) j js, none, owners_none x (j.job + 1) js high (omega (arith, below, rise.0)) rise.1)

owners_one : (x : Frame) (low : ℕ) (js : List JobRow) (high : ℕ) → IsRising job_key low js high → sum_by (owner (Some x)) js ≤ 1
owners_one x low [] high rise = omega arith
owners_one x low (j ∷ js) high rise = by (eqb x.job j.job) refl (owners_one x (j.job + 1) js high rise.1)
  where
    by : (b : Bool) → eqb x.job j.job ≡ b → sum_by (owner (Some x)) js ≤ 1 → sum_by (owner (Some x)) (j ∷ js) ≤ 1
    by true is later =
        let one : owner (Some x) j ≡ 1 = rw is refl in
        omega (arith, sum_by-cons (owner (Some x)) j js, one, owners_none x (j.job + 1) js high (omega (arith, eqb-true x.job j.job is)) rise.1)
    by false is later =
        let none : owner (Some x) j ≡ 0 = rw is refl in
        omega (arith, sum_by-cons (owner (Some x)) j js, none, later)

none_or_one : (b : Bool) → cond b 1 0 ≤ 1
none_or_one true = omega arith
none_or_one false = omega arith

one_slot : (frame : Option Frame) (may : Bool) (low : ℕ) (js : List JobRow) (high : ℕ) → IsRising job_key low js high → sum_by (owner frame) js + cond (is_none frame && may) 1 0 ≤ 1
one_slot None may low js high rise =
    let none = sum_by-each_zero (owner None) js (λ i j at. refl) in
    omega (arith, none, none_or_one may)
one_slot (Some x) may low js high rise = omega (arith, owners_one x low js high rise)

-- the slots of all jobs and the free ones are no more than there are
all_fit : (low : ℕ) (js : List JobRow) (high : ℕ) → IsRising job_key low js high → (slots : List SlotRow) → sum_by (λ (j : JobRow). taken_by j.job slots) js + free_among slots ≤ length slots
all_fit low js high rise [] =
    let none = sum_by-each_zero (λ (j : JobRow). taken_by j.job []) js (λ i j at. refl) in
    omega (arith, none)
all_fit low js high rise (s ∷ ss) =
    let both = sum_both (owner s.frame) (λ (j : JobRow). taken_by j.job ss) (λ (j : JobRow). taken_by j.job (s ∷ ss)) js (λ j. sum_by-cons (λ (r : SlotRow). cond (is_frame_of j.job r) 1 0) s ss) in
    let one = one_slot s.frame (nat_lt s.version LAST_VERSION) low js high rise in
    omega (arith, both, one, sum_by-cons (λ (r : SlotRow). cond (is_free r) 1 0) s ss, all_fit low js high rise ss)

-- ---- the parts of a kept job

record JobKept (j : JobRow) : Type 0 where
  priority : j.priority ≤ MOST_PRIORITY
  frames : 0 < j.frames

job_kept : (shows : ℕ) (j : JobRow) → is_formed_job shows j ≡ true → JobKept j
job_kept shows j formed =
    let name = and_both (is_name_text j.name) _ formed in
    let show = and_both (nat_lt j.show shows) _ name.1 in
    let facility = and_both (is_tag_text j.facility) _ show.1 in
    let shot = and_both (is_name_or_empty j.shot) _ facility.1 in
    let user = and_both (is_name_or_empty j.user) _ shot.1 in
    let priority = and_both (is_between 1 MOST_PRIORITY j.priority) _ user.1 in
    let retries = and_both (nat_le j.max_retries MOST_RETRIES) (is_between 1 MOST_FRAMES j.frames) priority.1 in
    record {
      priority = leb-true j.priority MOST_PRIORITY (and_both (nat_le 1 j.priority) (nat_le j.priority MOST_PRIORITY) priority.0).1;
      frames = leb-true 1 j.frames (and_both (nat_le 1 j.frames) (nat_le j.frames MOST_FRAMES) retries.1).0;
    }

pub none_of : (jobs : List JobRow) (job : ℕ) (ls : List LayerRow) → list_all (λ (l : LayerRow). is_of_pending jobs l.job) ls ≡ true → is_of_pending jobs job ≡ false → list_any (λ (l : LayerRow). eqb l.job job) ls ≡ false
none_of jobs job [] owned idle = refl
none_of jobs job (l ∷ ls) owned idle =
    by (eqb l.job job) refl (none_of jobs job ls (and_both (is_of_pending jobs l.job) (list_all (λ (k : LayerRow). is_of_pending jobs k.job) ls) owned).1 idle)
  where
    by : (b : Bool) → eqb l.job job ≡ b → list_any (λ (k : LayerRow). eqb k.job job) ls ≡ false → list_any (λ (k : LayerRow). eqb k.job job) (l ∷ ls) ≡ false
    by true is later =
        let pending = (and_both (is_of_pending jobs l.job) (list_all (λ (k : LayerRow). is_of_pending jobs k.job) ls) owned).0 in
        absurd (false≢true (sym idle ∙ sym (ap (λ (n : ℕ). is_of_pending jobs n) (eqb-true l.job job is)) ∙ pending))
    by false is later = rw is later

pub rising_below : (low : ℕ) (js : List JobRow) (high : ℕ) → IsRising job_key low js high → list_all (λ (j : JobRow). ltb j.job high) js ≡ true
rising_below low [] high rise = refl
rising_below low (j ∷ js) high rise =
    and_from _ _ (lt-ltb j.job high (omega (arith, rising_within job_key (j.job + 1) js high rise.1))) (rising_below (j.job + 1) js high rise.1)

pub rising_to : {X : Type 0} (key : X → ℕ) (low : ℕ) (xs : List X) (high more : ℕ) → high ≤ more → IsRising key low xs high → IsRising key low xs more
rising_to key low [] high more le rise = omega (arith, le, rise)
rising_to key low (x ∷ xs) high more le rise = (rise.0, rising_to key (key x + 1) xs high more le rise.1)

-- ---- the book

module _ (b : JobLists) (shows : ℕ) (kept : KeepsJobs b shows) where
  pub rise : IsRising job_key 0 b.jobs b.next_job
  rise = rising_lower job_key 0 1 b.jobs b.next_job (omega arith) kept.jobs_rise

  -- all numbers of jobs are below the most that there can be
  pub numbered : IsRising job_key 0 b.jobs JOB_NUMBERS
  numbered = rising_to job_key 0 b.jobs b.next_job JOB_NUMBERS (omega (arith, kept.next_within)) rise

  pub layers_numbered : IsRising kept_key 0 b.layers (MOST_LAYERS * JOB_NUMBERS)
  layers_numbered = rising_to kept_key 0 b.layers (MOST_LAYERS * b.next_job) (MOST_LAYERS * JOB_NUMBERS) (omega (arith, kept.next_within)) kept.layers_rise

  -- a frame's job is pending
  frame_pending : (x : Frame) → is_kept_frame b.layers x ≡ true → is_of_pending b.jobs x.job ≡ true
  frame_pending x is =
      let layer = for_some_true (layer_in b.layers x.job x.layer) _ (frame_kept b.layers x is).number in
      let passes = find_passes (λ (l : LayerRow). eqb l.job x.job && eqb l.place x.layer) (λ (l : LayerRow). is_of_pending b.jobs l.job) b.layers layer.0 kept.layers_owned layer.1 in
      let own = and_both (eqb layer.0.job x.job) (eqb layer.0.place x.layer) (found_is (λ (l : LayerRow). eqb l.job x.job && eqb l.place x.layer) b.layers layer.0 layer.1) in
      sym (ap (λ (n : ℕ). is_of_pending b.jobs n) (eqb-true layer.0.job x.job own.0)) ∙ passes

  slot_frame : (i : ℕ) (s : SlotRow) → slice_get b.slots i ≡ Some s → for_any s.frame (is_kept_frame b.layers) ≡ true
  slot_frame i s at = (and_both (nat_le s.version LAST_VERSION) _ (list_all-at (is_kept_slot b.layers) b.slots i s kept.slots_kept at)).1

  below_by : (frame : Option Frame) → for_any frame (is_kept_frame b.layers) ≡ true → not (for_some frame (λ (x : Frame). nat_le b.next_job x.job)) ≡ true
  below_by None is = refl
  below_by (Some x) is = by (nat_le b.next_job x.job) refl
    where
      by : (c : Bool) → nat_le b.next_job x.job ≡ c → not (nat_le b.next_job x.job) ≡ true
      by false h = rw h refl
      by true h =
          let row = for_some_true (find (λ (j : JobRow). eqb j.job x.job) b.jobs) is_pending_job (frame_pending x is) in
          let less = ltb-true row.0.job b.next_job (find_passes (λ (j : JobRow). eqb j.job x.job) (λ (j : JobRow). ltb j.job b.next_job) b.jobs row.0 (rising_below 0 b.jobs b.next_job rise) row.1) in
          let same = eqb-true row.0.job x.job (found_is (λ (j : JobRow). eqb j.job x.job) b.jobs row.0 row.1) in
          absurd (omega (arith, less, same, leb-true b.next_job x.job h))

  -- a job is pending, by its number
  of_pending : (n : ℕ) (j : JobRow) → slice_get b.jobs n ≡ Some j → is_of_pending b.jobs j.job ≡ is_pending j.state
  of_pending n j at = ap (λ (o : Option JobRow). for_some o is_pending_job) (find_numbered j.job 0 b.jobs b.next_job n j rise at refl)

  frame_none : (j : JobRow) → is_of_pending b.jobs j.job ≡ false → (frame : Option Frame) → for_any frame (is_kept_frame b.layers) ≡ true → owner frame j ≡ 0
  frame_none j idle None is = refl
  frame_none j idle (Some x) is =
      let apart : eqb x.job j.job ≡ false = ne_eqb x.job j.job (λ e. false≢true (sym idle ∙ sym (ap (λ (n : ℕ). is_of_pending b.jobs n) e) ∙ frame_pending x is)) in
      rw apart refl

  -- a pending job has as many slots as frames, and another one has none
  taken_is : (n : ℕ) (j : JobRow) → slice_get b.jobs n ≡ Some j → (c : Bool) → is_pending j.state ≡ c → taken_by j.job b.slots ≡ cond c j.frames 0
  taken_is n j at true is =
      let has = kept.jobs_layered n j at is in
      own_frames j.job b.slots b.layers has.places kept.slots_kept kept.frames_once kept.frames_there ∙ has.frames
  taken_is n j at false is = sum_by-each_zero (λ (s : SlotRow). cond (is_frame_of j.job s) 1 0) b.slots (λ i s there. frame_none j (of_pending n j at ∙ is) s.frame (slot_frame i s there))

  had_by : (n : ℕ) (j : JobRow) → slice_get b.jobs n ≡ Some j → (c : Bool) → is_pending j.state ≡ c → cond c (nat_lt 0 j.frames && nat_le (taken_by j.job b.slots) j.frames) (eqb (taken_by j.job b.slots) 0) ≡ true
  had_by n j at true is =
      let frames = (job_kept shows j (list_all-at (is_formed_job shows) b.jobs n j kept.jobs_formed at)).frames in
      and_from _ _ (lt-ltb 0 j.frames frames) (le-leb (taken_by j.job b.slots) j.frames (omega (arith, taken_is n j at true is)))
  had_by n j at false is = eq-eqb (taken_by j.job b.slots) 0 (taken_is n j at false is)

  layers_by : (n : ℕ) (j : JobRow) → slice_get b.jobs n ≡ Some j → (c : Bool) → is_pending j.state ≡ c → (c || not (list_any (λ (l : LayerRow). eqb l.job j.job) b.layers)) ≡ true
  layers_by n j at true is = refl
  layers_by n j at false is = ap not (none_of b.jobs j.job b.layers kept.layers_owned (of_pending n j at ∙ is))

  left_is : (n : ℕ) (j : JobRow) → slice_get b.jobs n ≡ Some j → frames_left j ≡ taken_by j.job b.slots
  left_is n j at = sym (taken_is n j at (is_pending j.state) refl)

  pub made_book : IsBook b
  made_book =
      record {
        slot_count = kept.slot_count;
        next_within = kept.next_within;
        jobs_rise = rise;
        layers_rise = rekeyed 0 0 b.layers b.next_job kept.layers_formed (λ l within above. omega arith) (λ above. omega arith) kept.layers_rise;
        layers_owned = list_all-from_at (has_layers_if b.layers) b.jobs (λ n j at. layers_by n j at (is_pending j.state) refl);
        frames_below = list_all-from_at (is_below b.next_job) b.slots (λ i s at. below_by s.frame (slot_frame i s at));
        slots_had = list_all-from_at (has_slots b.slots) b.jobs (λ n j at. had_by n j at (is_pending j.state) refl);
        jobs_fit = omega (arith, sum_alike frames_left (λ (j : JobRow). taken_by j.job b.slots) b.jobs left_is, all_fit 0 b.jobs b.next_job rise b.slots, kept.slot_count);
      }

  -- so many jobs fit
  pub few_jobs : length b.jobs + 1 < MOST_JOBS
  few_jobs = omega (arith, rows_few b.slots b.jobs made_book.slots_had, made_book.jobs_fit, kept.finished_count)

  pub priorities : list_all has_priority b.jobs ≡ true
  priorities = list_all-from_at has_priority b.jobs (λ n j at. le-leb j.priority MOST_PRIORITY (job_kept shows j (list_all-at (is_formed_job shows) b.jobs n j kept.jobs_formed at)).priority)

  finish_by : (j : JobRow) (c : Bool) → cond c (eqb j.finish 0) (nat_lt 0 j.finish && nat_lt j.finish b.next_finish) ≡ true → has_finish j ≡ true
  finish_by j true is = lt-ltb j.finish JOB_NUMBERS (omega (arith, eqb-true j.finish 0 is))
  finish_by j false is =
      let less = ltb-true j.finish b.next_finish (and_both (nat_lt 0 j.finish) (nat_lt j.finish b.next_finish) is).1 in
      lt-ltb j.finish JOB_NUMBERS (omega (arith, less, kept.finish_within, kept.next_within))

  pub finishes : list_all has_finish b.jobs ≡ true
  finishes = list_all-from_at has_finish b.jobs (λ n j at. finish_by j (is_pending j.state) (list_all-at (has_its_finish b.next_finish) b.jobs n j kept.finishes_within at))
