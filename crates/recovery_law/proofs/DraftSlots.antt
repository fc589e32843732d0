-- What rows of frames keep that fit the rows before them.
use Rattle.std.proofs.Common.{◌≡◌, ◌≤◌, ℕ, suc, zero, ◌+◌, ◌-◌, Bool, true, false, cond, ◌&&◌, not, eqb, leb, ltb, List, [], ◌∷◌, ◌++◌, length, Option, Some, None, refl, sym, ap, subst, ◌∙◌, arith, ℤ}
use Rattle.std.specs.Prelude.{replicate, slice_get, is_some}
use Rattle.std.specs.List.{find, list_all, list_any, position_or_len, sum_by}
use Rattle.std.specs.Ordering.{int_eq}
use Rattle.std.specs.Cmp.Derive.{both_true}
use Rattle.std.proofs.lemmas.Bool.{eq-eqb, eqb-true, false≢true, le-leb, leb-true, lt-ltb, ltb-false, ltb-true, not-true}
use Rattle.std.proofs.lemmas.List.{append_assoc, length-replicate}
use Rattle.std.proofs.lemmas.Option.{none-some, same_Some}
use Rattle.farm_types.specs.Booking.{is_up}
use Rattle.farm_types.specs.declared.attempt.ProcRow.{ProcRow}
use Rattle.farm_types.specs.declared.depend.DependRow.{DependRow}
use Rattle.farm_types.specs.declared.depend.MetRow.{MetRow}
use Rattle.farm_types.specs.declared.limits.TheConstants.{LAST_VERSION, MOST_RETRIES, SLOT_LIMIT}
use Rattle.farm_types.specs.declared.rows.HostRow.{HostRow}
use Rattle.farm_types.specs.declared.rows.JobRow.{JobRow}
use Rattle.farm_types.specs.declared.rows.LayerRow.{LayerRow}
use Rattle.farm_types.specs.declared.rows.LimitRow.{LimitRow}
use Rattle.farm_types.specs.declared.slot_row.Frame.{Frame}
use Rattle.farm_types.specs.declared.slot_row.SlotRow.{SlotRow}
use Rattle.farm_types.specs.Farm.{Farm, for_some, is_placed, layer_at, slot_from, sub_of, layer_in}
use Rattle.farm_types.specs.Kept.{EachOnce, EndsUsed, KeepsAttempts, is_kept_slot, is_setup, is_used}
use Rattle.farm_types.specs.Ranges.{range_numbers}
use Rattle.farm_types.specs.Run.{HasItsAttempt, IsSound}
use Rattle.farm_types.specs.Sums.{cores_on, memory_on, used_cores, used_memory}
use Rattle.farm_types.proofs.Lists.{list_all-at, list_all-from_at}
use Rattle.farm_types.proofs.Passes.{for_some-there}
use Rattle.farm_law.proofs.KeptAttempts.{Fits, attempts_from_each, each_fits, none_fits}
use Rattle.farm_law.proofs.KeptJobsCounts.{count_at, count_from_once, count_there, counts_frame, once_from_count, stands_at}
use Rattle.farm_law.proofs.KeptJobsRows.{keeps_frame}
use Rattle.farm_law.proofs.Placed.{Each}
use Rattle.farm_rows.specs.declared.frame_row.FrameRow.{FrameRow}
use Rattle.farm_rows.specs.declared.frame_row.StoredFrame.{StoredFrame}
use Rattle.farm_rows.specs.declared.frame_row.StoredState.{StoredState}
use Rattle.farm_rows.specs.declared.frame_row.StoredState.TheVariants as stored
use Rattle.farm_rows.specs.Recovery.{attempt_at, attempt_fits, attempt_of, frame_of, numbers_in, position_of, slot_fits, slot_row, state_of, taken_fits, unused_slot, with_slot}
use Rattle.farm_rows.proofs.FrameFits.{AttemptFits, attempt_parts, frame_parts, slot_parts, takes_parts}
use Rattle.farm_rows.proofs.OneSlotMore.{slots_long, sum_with}

-- ---- one slot more

each_append : (P : ℕ → SlotRow → Type 0) (xs ys : List SlotRow) → Each P xs → Each (λ i s. P (length xs + i) s) ys → Each P (xs ++ ys)
each_append P [] ys first second i s at = subst (λ (n : ℕ). P n s) (omega arith) (second i s at)
each_append P (x ∷ xs) ys first second zero s at = first zero s at
each_append P (x ∷ xs) ys first second (suc i) s at =
    each_append (λ k. P (suc k)) xs ys (λ k t here. first (suc k) t here) (λ k t here. subst (λ (n : ℕ). P n t) (omega arith) (second k t here)) i s at

each_unused : (P : ℕ → SlotRow → Type 0) (n : ℕ) → ((i : ℕ) → P i unused_slot) → Each P (replicate n unused_slot)
each_unused P zero unused i s at = absurd (none-some s at)
each_unused P (suc n) unused zero s at = subst (P 0) (same_Some unused_slot s at) (unused 0)
each_unused P (suc n) unused (suc i) s at = each_unused (λ k. P (suc k)) n (λ k. unused (suc k)) i s at

each_one : (P : ℕ → SlotRow → Type 0) (n : ℕ) (t : SlotRow) → P n t → Each (λ i s. P (n + i) s) (t ∷ [])
each_one P n t here zero s at = subst (λ (k : ℕ). P k s) (omega arith) (subst (P n) (same_Some t s at) here)
each_one P n t here (suc i) s at = absurd (none-some s at)

-- what holds of each slot, of those that were never used and of the new one holds of each
pub each_with : (P : ℕ → SlotRow → Type 0) (slots : List SlotRow) (slot : ℕ) (t : SlotRow) → length slots ≤ slot → Each P slots → ((i : ℕ) → P i unused_slot) → P slot t → Each P (with_slot slots slot t)
each_with P slots slot t past old unused new =
    let n = slot - length slots in
    let gap = replicate n unused_slot in
    let place : length slots + length gap ≡ slot = omega (arith, past, length-replicate {A = SlotRow} n unused_slot) in
    let last : P (length slots + length gap) t = subst (λ (k : ℕ). P k t) (sym place) new in
    each_append P slots (gap ++ t ∷ []) old
    (each_append (λ k. P (length slots + k)) gap (t ∷ []) (each_unused (λ k. P (length slots + k)) n (λ k. unused (length slots + k)))
    (each_one (λ k. P (length slots + k)) (length gap) t last))

ends_push : (slots : List SlotRow) (t : SlotRow) → is_used t ≡ true → EndsUsed (slots ++ t ∷ [])
ends_push [] t used = used
ends_push (x ∷ []) t used = used
ends_push (x ∷ (y ∷ ys)) t used = ends_push (y ∷ ys) t used

ends_with : (slots : List SlotRow) (slot : ℕ) (t : SlotRow) → is_used t ≡ true → EndsUsed (with_slot slots slot t)
ends_with slots slot t used =
    subst EndsUsed (append_assoc slots (replicate (slot - length slots) unused_slot) (t ∷ [])) (ends_push (slots ++ replicate (slot - length slots) unused_slot) t used)

-- ---- frames

-- the first item that passes
position_passes : {X : Type 0} (test : X → Bool) (xs : List X) → list_any test xs ≡ true → for_some (slice_get xs (position_or_len test xs)) test ≡ true
position_passes test [] h = absurd (false≢true h)
position_passes test (x ∷ xs) h = step (test x) refl (position_passes test xs)
  where
    step : (b : Bool) → test x ≡ b → (list_any test xs ≡ true → for_some (slice_get xs (position_or_len test xs)) test ≡ true) → for_some (slice_get (x ∷ xs) (position_or_len test (x ∷ xs))) test ≡ true
    step true is rest = rw is is
    step false is rest =
        let later : list_any test xs ≡ true = rw is at h in
        let place : position_or_len test (x ∷ xs) ≡ suc (position_or_len test xs) = rw is (omega arith) in
        subst (λ (n : ℕ). for_some (slice_get (x ∷ xs) n) test ≡ true) (sym place) (rest later)

numbers_of : (test : ℤ → Bool) (o : Option LayerRow) → list_any test (numbers_in o) ≡ true → for_some o (λ l. for_some (slice_get (range_numbers l.range) (position_or_len test (numbers_in o))) test) ≡ true
numbers_of test None h = absurd (false≢true h)
numbers_of test (Some l) h = position_passes test (range_numbers l.range) h

no_setup : (f : Farm) (version : ℕ) (x : StoredFrame) (state : StoredState) → attempt_fits f version x state ≡ true → not (is_setup (state_of state)) ≡ true
no_setup f version x stored.Waiting h = refl
no_setup f version x stored.Setup h = absurd (false≢true h)
no_setup f version x (stored.Running boot host since) h = refl
no_setup f version x stored.Succeeded h = refl
no_setup f version x stored.Depend h = refl
no_setup f version x stored.Dead h = refl
no_setup f version x stored.Eaten h = refl

slot_is_kept : (f : Farm) (slot version : ℕ) (frame : Option StoredFrame) → leb version LAST_VERSION ≡ true → taken_fits f version frame ≡ true → is_kept_slot f.layers (slot_row f (record { slot = slot; version = version; frame = frame })) ≡ true
slot_is_kept f slot version None within fits = both_true within refl
slot_is_kept f slot version (Some x) within fits =
    let parts = frame_parts f version x fits in
    both_true within
    (keeps_frame f.layers (frame_of f x)
    (record {
      number = numbers_of (λ number. int_eq number x.number) (layer_at f x.job x.layer) parts.numbered;
      retries = leb-true x.retries MOST_RETRIES parts.retries;
      state = no_setup f version x x.state parts.attempt;
    }))

slot_is_used : (f : Farm) (slot version : ℕ) (frame : Option StoredFrame) → taken_fits f version frame ≡ true → is_used (slot_row f (record { slot = slot; version = version; frame = frame })) ≡ true
slot_is_used f slot version None fits = fits
slot_is_used f slot version (Some x) fits = refl

-- ---- each frame once

module _ (f : Farm) (slot version : ℕ) where
  once_step : (job layer position : ℕ) (frame : Option StoredFrame) (b : Bool) → for_some (slot_row f (record { slot = slot; version = version; frame = frame })).frame (is_placed job layer position) ≡ b → taken_fits f version frame ≡ true
      → EachOnce f.slots → count_at job layer position f.slots + counts_frame job layer position (slot_row f (record { slot = slot; version = version; frame = frame })).frame ≤ 1
  once_step job layer position frame false is fits once =
      let none : counts_frame job layer position (slot_row f (record { slot = slot; version = version; frame = frame })).frame ≡ 0 = rw is refl in
      omega (arith, count_from_once f.slots once job layer position, none)
  once_step job layer position None true is fits once = absurd (false≢true is)
  once_step job layer position (Some x) true is fits once =
      let at = stands_at job layer position (frame_of f x) is in
      let one : counts_frame job layer position (Some (frame_of f x)) ≡ 1 = rw is refl in
      let apart : is_some (slot_from 0 (is_placed x.job x.layer (position_of f x)) f.slots) ≡ false = not-true _ (frame_parts f version x fits).apart in
      let free : is_some (slot_from 0 (is_placed job layer position) f.slots) ≡ false = rw (sym at.job_is, sym at.layer_is, sym at.position_is) apart in
      omega (arith, one, uncounted job layer position f.slots free)
    where
      uncounted : (job layer position : ℕ) (slots : List SlotRow) → is_some (slot_from 0 (is_placed job layer position) slots) ≡ false → count_at job layer position slots ≡ 0
      uncounted job layer position slots none = by (ltb 0 (count_at job layer position slots)) refl
        where
          by : (b : Bool) → ltb 0 (count_at job layer position slots) ≡ b → count_at job layer position slots ≡ 0
          by true some = absurd (false≢true (sym none ∙ count_there (is_placed job layer position) 0 slots (omega (arith, ltb-true 0 (count_at job layer position slots) some))))
          by false no_more = omega (arith, ltb-false 0 (count_at job layer position slots) no_more)

-- ---- the attempt

module _ (f : Farm) where
  refit : (slots : List SlotRow) (s : SlotRow) → Fits f s → Fits (record f { slots = slots }) s
  refit slots s k = record { hosted = k.hosted; measured = k.measured; billed = k.billed; subscribed = k.subscribed; since = k.since; versioned = k.versioned }

  -- the slot of a stored frame in a state
  abbrev pub slot_in : ℕ → ℕ → StoredFrame → StoredState → SlotRow
  slot_in slot version x state = record { version = version; frame = Some (record (frame_of f x) { state = state_of state }); proc = attempt_at f slot version x state }

  -- the attempt at a running frame
  abbrev pub proc_of : (slot version : ℕ) (x : StoredFrame) (boot host since : ℕ) → AttemptFits f version x boot host since → ProcRow
  proc_of slot version x boot host since k = attempt_of slot version boot host since k.job k.layer k.on

  has_attempt : (slot version : ℕ) (x : StoredFrame) (boot host since : ℕ) (k : AttemptFits f version x boot host since) → attempt_at f slot version x (stored.Running boot host since) ≡ Some (proc_of slot version x boot host since k)
  has_attempt slot version x boot host since k = rw (k.has_job, k.has_layer, k.has_host) refl

  fits_running : (slot version : ℕ) (x : StoredFrame) (frame : Frame) (boot host since : ℕ) (k : AttemptFits f version x boot host since) → frame.job ≡ x.job → frame.layer ≡ x.layer
      → Fits f (record { version = version; frame = Some frame; proc = Some (proc_of slot version x boot host since k) })
  fits_running slot version x frame boot host since k job layer =
      let t = takes_parts f boot host k.job k.layer k.on k.takes in
      record {
        hosted = for_some-there (slice_get f.hosts host) (λ row. is_up row.state && eqb row.boot boot) k.on k.has_host t.up;
        measured = for_some-there (layer_in f.layers frame.job frame.layer) (λ l. eqb k.layer.cores l.cores && eqb k.layer.memory l.memory) k.layer (rw (job, layer) k.has_layer) (both_true (eq-eqb k.layer.cores k.layer.cores refl) (eq-eqb k.layer.memory k.layer.memory refl));
        billed = for_some-there (find (λ (j : JobRow). eqb j.job frame.job) f.jobs) _ k.job (rw job k.has_job) (for_some-there (slice_get f.hosts host) _ k.on k.has_host (eq-eqb (sub_of k.job.show k.on.alloc) (sub_of k.job.show k.on.alloc) refl));
        subscribed = t.subscribed;
        since = le-leb since f.moment k.begun;
        versioned = lt-ltb 0 version k.versioned;
      }

  new_fits : (slot version : ℕ) (x : StoredFrame) (state : StoredState) → attempt_fits f version x state ≡ true → Fits f (slot_in slot version x state)
  new_fits slot version x (stored.Running boot host since) h =
      let k = attempt_parts f version x boot host since h in
      subst (λ (o : Option ProcRow). Fits f (record { version = version; frame = Some (record (frame_of f x) { state = state_of (stored.Running boot host since) }); proc = o })) (sym (has_attempt slot version x boot host since k))
      (fits_running slot version x (record (frame_of f x) { state = state_of (stored.Running boot host since) }) boot host since k refl refl)
  new_fits slot version x stored.Setup h = absurd (false≢true h)
  new_fits slot version x stored.Waiting h = none_fits f _ refl
  new_fits slot version x stored.Succeeded h = none_fits f _ refl
  new_fits slot version x stored.Depend h = none_fits f _ refl
  new_fits slot version x stored.Dead h = none_fits f _ refl
  new_fits slot version x stored.Eaten h = none_fits f _ refl

  new_attempt : (slot version : ℕ) (x : StoredFrame) (state : StoredState) → attempt_fits f version x state ≡ true → HasItsAttempt slot version (Some (record (frame_of f x) { state = state_of state })) (attempt_at f slot version x state)
  new_attempt slot version x (stored.Running boot host since) h =
      let k = attempt_parts f version x boot host since h in
      subst (HasItsAttempt slot version (Some (record (frame_of f x) { state = state_of (stored.Running boot host since) }))) (sym (has_attempt slot version x boot host since k)) (refl, refl)
  new_attempt slot version x stored.Setup h = absurd (false≢true h)
  new_attempt slot version x stored.Waiting h = tt
  new_attempt slot version x stored.Succeeded h = tt
  new_attempt slot version x stored.Depend h = tt
  new_attempt slot version x stored.Dead h = tt
  new_attempt slot version x stored.Eaten h = tt

  -- within a host's amounts
  room_step : (b : Bool) (used own host n : ℕ) (amount : HostRow → ℕ) (on row : HostRow) → eqb host n ≡ b → slice_get f.hosts host ≡ Some on → slice_get f.hosts n ≡ Some row
      → used ≤ amount row → (host ≡ n → used + own ≤ amount on) → used + cond b own 0 ≤ amount row
  room_step true used own host n amount on row is at here old new =
      let same = eqb-true host n is in
      let rows : on ≡ row = same_Some on row (sym at ∙ ap (slice_get f.hosts) same ∙ here) in
      subst (λ (r : HostRow). used + own ≤ amount r) rows (new same)
  room_step false used own host n amount on row is at here old new = omega (arith, old)

  cores_room : (slot version : ℕ) (x : StoredFrame) (state : StoredState) → attempt_fits f version x state ≡ true → (n : ℕ) (row : HostRow) → slice_get f.hosts n ≡ Some row → used_cores f n ≤ row.cores
      → used_cores f n + cores_on n (attempt_at f slot version x state) ≤ row.cores
  cores_room slot version x (stored.Running boot host since) h n row here old =
      let k = attempt_parts f version x boot host since h in
      let t = takes_parts f boot host k.job k.layer k.on k.takes in
      subst (λ (o : Option ProcRow). used_cores f n + cores_on n o ≤ row.cores) (sym (has_attempt slot version x boot host since k))
      (room_step (eqb host n) (used_cores f n) k.layer.cores host n (λ r. r.cores) k.on row refl k.has_host here old (λ same. subst (λ (m : ℕ). used_cores f m + k.layer.cores ≤ k.on.cores) same t.cores))
  cores_room slot version x stored.Setup h n row here old = omega (arith, old)
  cores_room slot version x stored.Waiting h n row here old = omega (arith, old)
  cores_room slot version x stored.Succeeded h n row here old = omega (arith, old)
  cores_room slot version x stored.Depend h n row here old = omega (arith, old)
  cores_room slot version x stored.Dead h n row here old = omega (arith, old)
  cores_room slot version x stored.Eaten h n row here old = omega (arith, old)

  memory_room : (slot version : ℕ) (x : StoredFrame) (state : StoredState) → attempt_fits f version x state ≡ true → (n : ℕ) (row : HostRow) → slice_get f.hosts n ≡ Some row → used_memory f n ≤ row.memory
      → used_memory f n + memory_on n (attempt_at f slot version x state) ≤ row.memory
  memory_room slot version x (stored.Running boot host since) h n row here old =
      let k = attempt_parts f version x boot host since h in
      let t = takes_parts f boot host k.job k.layer k.on k.takes in
      subst (λ (o : Option ProcRow). used_memory f n + memory_on n o ≤ row.memory) (sym (has_attempt slot version x boot host since k))
      (room_step (eqb host n) (used_memory f n) k.layer.memory host n (λ r. r.memory) k.on row refl k.has_host here old (λ same. subst (λ (m : ℕ). used_memory f m + k.layer.memory ≤ k.on.memory) same t.memory))
  memory_room slot version x stored.Setup h n row here old = omega (arith, old)
  memory_room slot version x stored.Waiting h n row here old = omega (arith, old)
  memory_room slot version x stored.Succeeded h n row here old = omega (arith, old)
  memory_room slot version x stored.Depend h n row here old = omega (arith, old)
  memory_room slot version x stored.Dead h n row here old = omega (arith, old)
  memory_room slot version x stored.Eaten h n row here old = omega (arith, old)

-- ---- all slots

-- what the slots keep
pub record DraftSlots (f : Farm) : Type 0 where
  pub count : length f.slots ≤ SLOT_LIMIT
  pub kept : list_all (is_kept_slot f.layers) f.slots ≡ true
  pub once : EachOnce f.slots
  pub ends_used : EndsUsed f.slots
  pub attempts : KeepsAttempts f
  pub sound : IsSound f

-- a slot's row, by cases on its frame
module _ (f : Farm) (slot version : ℕ) where
  abbrev pub slot_of : Option StoredFrame → SlotRow
  slot_of frame = slot_row f (record { slot = slot; version = version; frame = frame })

  taken_attempt : (frame : Option StoredFrame) → taken_fits f version frame ≡ true → HasItsAttempt slot version (slot_of frame).frame (slot_of frame).proc
  taken_attempt None fits = tt
  taken_attempt (Some x) fits = new_attempt f slot version x x.state (frame_parts f version x fits).attempt

  taken_room : (frame : Option StoredFrame) → taken_fits f version frame ≡ true → Fits f (slot_of frame)
  taken_room None fits = none_fits f (slot_of None) refl
  taken_room (Some x) fits = new_fits f slot version x x.state (frame_parts f version x fits).attempt

  taken_cores : (frame : Option StoredFrame) → taken_fits f version frame ≡ true → (n : ℕ) (row : HostRow) → slice_get f.hosts n ≡ Some row → used_cores f n ≤ row.cores → used_cores f n + cores_on n (slot_of frame).proc ≤ row.cores
  taken_cores None fits n row here old = omega (arith, old)
  taken_cores (Some x) fits n row here old = cores_room f slot version x x.state (frame_parts f version x fits).attempt n row here old

  taken_memory : (frame : Option StoredFrame) → taken_fits f version frame ≡ true → (n : ℕ) (row : HostRow) → slice_get f.hosts n ≡ Some row → used_memory f n ≤ row.memory → used_memory f n + memory_on n (slot_of frame).proc ≤ row.memory
  taken_memory None fits n row here old = omega (arith, old)
  taken_memory (Some x) fits n row here old = memory_room f slot version x x.state (frame_parts f version x fits).attempt n row here old

pub slot_kept : (f : Farm) (r : FrameRow) → slot_fits f r ≡ true → length f.slots ≤ r.slot → DraftSlots f → DraftSlots (record f { slots = with_slot f.slots r.slot (slot_row f r) })
slot_kept f r fits past k =
    let parts = slot_parts f r fits in
    let s = slot_row f r in
    let slots = with_slot f.slots r.slot s in
    record {
      count = omega (arith, slots_long f.slots r.slot s past, parts.within);
      kept = list_all-from_at (is_kept_slot f.layers) slots
          (each_with (λ i t. is_kept_slot f.layers t ≡ true) f.slots r.slot s past (λ i t at. list_all-at (is_kept_slot f.layers) f.slots i t k.kept at) (λ i. refl) (slot_is_kept f r.slot r.version r.frame parts.version parts.taken));
      once = once_from_count slots
          (λ job layer position.
          let sum = sum_with (λ (t : SlotRow). counts_frame job layer position t.frame) f.slots r.slot s refl in
          omega (arith, sum, once_step f r.slot r.version job layer position r.frame (for_some s.frame (is_placed job layer position)) refl parts.taken k.once));
      ends_used = ends_with f.slots r.slot s (slot_is_used f r.slot r.version r.frame parts.taken);
      attempts = attempts_from_each (record f { slots = slots })
          (each_with (λ i t. Fits (record f { slots = slots }) t) f.slots r.slot s past (λ i t at. refit f slots t (each_fits f k.attempts i t at)) (λ i. none_fits (record f { slots = slots }) unused_slot refl)
          (refit f slots s (taken_room f r.slot r.version r.frame parts.taken)));
      sound = record {
        cores = λ n row at.
            let sum = sum_with (λ (t : SlotRow). cores_on n t.proc) f.slots r.slot s refl in
            omega (arith, sum, taken_cores f r.slot r.version r.frame parts.taken n row at (k.sound.cores n row at));
        memory = λ n row at.
            let sum = sum_with (λ (t : SlotRow). memory_on n t.proc) f.slots r.slot s refl in
            omega (arith, sum, taken_memory f r.slot r.version r.frame parts.taken n row at (k.sound.memory n row at));
        attempts = each_with (λ i t. HasItsAttempt i t.version t.frame t.proc) f.slots r.slot s past k.sound.attempts (λ i. tt) (taken_attempt f r.slot r.version r.frame parts.taken);
      };
    }

-- with other depends and limits
pub slots_beside : (f : Farm) (depends : List DependRow) (met : List MetRow) (limits : List LimitRow) → DraftSlots f → DraftSlots (record f { depends = depends; met = met; limits = limits })
slots_beside f depends met limits k =
    record {
      count = k.count;
      kept = k.kept;
      once = k.once;
      ends_used = k.ends_used;
      attempts = record { hosted = k.attempts.hosted; measured = k.attempts.measured; billed = k.attempts.billed; subscribed = k.attempts.subscribed; since = k.attempts.since; versioned = k.attempts.versioned };
      sound = record { cores = k.sound.cores; memory = k.sound.memory; attempts = k.sound.attempts };
    }

-- before the first
pub no_slots_yet : (f : Farm) → f.slots ≡ [] → DraftSlots f
no_slots_yet f none =
    record {
      count = subst (λ (ss : List SlotRow). length ss ≤ SLOT_LIMIT) (sym none) (omega arith);
      kept = subst (λ (ss : List SlotRow). list_all (is_kept_slot f.layers) ss ≡ true) (sym none) refl;
      once = subst EachOnce (sym none) (λ i k s t x y at is_x at_k is_y same. absurd (none-some s at));
      ends_used = subst EndsUsed (sym none) tt;
      attempts = attempts_from_each f (λ i s at. absurd (empty s i at));
      sound = record {
        cores = λ n row at. subst (λ (ss : List SlotRow). sum_by (λ (s : SlotRow). cores_on n s.proc) ss ≤ row.cores) (sym none) (omega arith);
        memory = λ n row at. subst (λ (ss : List SlotRow). sum_by (λ (s : SlotRow). memory_on n s.proc) ss ≤ row.memory) (sym none) (omega arith);
        attempts = λ i s at. absurd (empty s i at);
      };
    }
  where
    empty : (s : SlotRow) (i : ℕ) → slice_get f.slots i ≡ Some s → ⊥
    empty s i at = none-some s (ap (λ (ss : List SlotRow). slice_get ss i) (sym none) ∙ at)
