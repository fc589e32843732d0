-- What becomes of a slot by an act with what follows of it.
use Rattle.std.proofs.Common.{◌≡◌, ℕ, suc, zero, ◌+◌, ◌<◌, Bool, true, false, cond, List, [], ◌∷◌, Option, Some, None, refl, sym, ap, subst, ◌∙◌, inl, inr, arith}
use Rattle.std.specs.List.{AllByRecursion, slice_get}
use Rattle.std.proofs.lemmas.Bool.{and_right, false≢true, not_from_true}
use Rattle.std.proofs.lemmas.List.Elements.{recursion_from_All}
use Rattle.std.proofs.lemmas.Option.{none-some, same_Some}
use Rattle.farm_types.specs.declared.depend.DependSpec.{DependSpec}
use Rattle.farm_types.specs.declared.entry.Act.{Act}
use Rattle.farm_types.specs.declared.entry.Act.TheVariants.{Heard, Submit, AddDepend, DropDepend, KillJob, EatFrame, RetryFrame}
use Rattle.farm_types.specs.declared.entry.Entry.{Entry}
use Rattle.farm_types.specs.declared.job.JobSpec.{JobSpec}
use Rattle.farm_types.specs.declared.limits.TheConstants.{LAST_VERSION}
use Rattle.farm_types.specs.declared.refusal.Refusal.{Refusal}
use Rattle.farm_types.specs.declared.slot_row.Frame.{Frame}
use Rattle.farm_types.specs.declared.slot_row.SlotRow.{SlotRow}
use Rattle.farm_types.specs.declared.states.FrameState.{FrameState}
use Rattle.farm_types.specs.declared.states.FrameState.TheVariants as frame_state
use Rattle.farm_types.specs.Booking.{is_waiting}
use Rattle.farm_types.specs.DependActs.{add_depend, add_depends, depend_refusal, depends_refusal, dropped, or_else, with_depends}
use Rattle.farm_types.specs.Depends.{groups_of, is_open}
use Rattle.farm_types.specs.Farm.{Farm, show_named}
use Rattle.farm_types.specs.Formed.{IsFormedAct, IsFormedOwn}
use Rattle.farm_types.specs.Jobs.{frames_of}
use Rattle.farm_types.specs.Kept.{IsKeptFarm, KeepsDepends, KeepsRows}
use Rattle.farm_types.specs.Operators.{retried_row, slot_named, with_row_at}
use Rattle.farm_types.specs.Run.{IsLegalStep}
use Rattle.farm_types.specs.Settle.{blocked_from, blocked_row, blocks, in_state, is_blocked, kept_version, opened_from, opens, raised, settle, with_blocked, with_met}
use Rattle.farm_types.specs.Step.{act_refusal, acted, after_act, after_submit, at_moment, follow_refusal, followed, moment_of, submit_refusal}
use Rattle.farm_types.proofs.Lists.{and_both}
use Rattle.farm_law.proofs.Finished.{raised_above}
use Rattle.farm_law.proofs.Follows.{RaisesWithin, kept_raises, raised_raises}
use Rattle.farm_law.proofs.KeptChanges.{kept_later}
use Rattle.farm_law.proofs.KeptRuns.{act_accepted, follow_accepted, kept_acted, refusal_later}
use Rattle.farm_law.proofs.Placed.{job_waits}
use Rattle.farm_law.proofs.SafeRuns.{allowed_later}
use Rattle.depend_law.proofs.Filled.{Fills, placed_fills}
use Rattle.depend_law.proofs.KeptTurns.{later_keeps}
use Rattle.depend_law.proofs.NewJob.{pending_before, submit_keeps}
use Rattle.depend_law.proofs.Placed.{HoldsOf}
use Rattle.depend_law.proofs.Retried.{again_stays}
use Rattle.depend_law.proofs.Shapes.{SameFrames, changed_frames, frames_same}
use Rattle.depend_law.proofs.Stable.{open_same, same_groups}
use Rattle.depend_law.proofs.Turns.{on_frame, on_slot}
use Rattle.entry_law.proofs.ActsGo.{At, IsBookingOf, act_at, at_then}
use Rattle.entry_law.proofs.FrameRows.{frame_pending}
use Rattle.entry_law.proofs.Opened.{named_next, open_adds, open_settled, rise_adds, waiting_open}
use Rattle.entry_law.proofs.RowsGo.{blocked_row_goes, empty_waits, opened_row_goes}
use Rattle.entry_law.proofs.SlotGoes.{SlotGoes, goes_left, goes_same}

-- ---- frames that open, and frames that are blocked

blocked_apart : (state : FrameState) → is_blocked state ≡ true → is_waiting state ≡ true → ⊥
blocked_apart frame_state.Depend b w = false≢true w
blocked_apart frame_state.Waiting b w = false≢true b
blocked_apart frame_state.Setup b w = false≢true b
blocked_apart frame_state.Running b w = false≢true b
blocked_apart frame_state.Succeeded b w = false≢true b
blocked_apart frame_state.Dead b w = false≢true b
blocked_apart frame_state.Eaten b w = false≢true b

shut_apart : (frame : Option Frame) → on_frame is_blocked frame ≡ true → on_frame is_waiting frame ≡ true → ⊥
shut_apart None b w = false≢true b
shut_apart (Some x) b w = blocked_apart x.state b w

module _ (W B : Type 0) where
  opened_if : (f : Farm) (slot : ℕ) (s : SlotRow) (b : Bool) → opens f slot s ≡ b → SlotGoes W B (Some s) (Some (cond b (in_state frame_state.Waiting s) s))
  opened_if f slot s false is = goes_same W B (Some s)
  opened_if f slot s true is = opened_row_goes W B s (shut_apart s.frame (and_both (on_frame is_blocked s.frame) (is_open f slot) is).0)

  opened_goes : (f : Farm) (slot : ℕ) (ss : List SlotRow) (n : ℕ) → SlotGoes W B (slice_get ss n) (slice_get (opened_from f slot ss) n)
  opened_goes f slot [] n = goes_same W B None
  opened_goes f slot (s ∷ ss) zero = opened_if f slot s (opens f slot s) refl
  opened_goes f slot (s ∷ ss) (suc n) = opened_goes f (slot + 1) ss n

  pub settle_at : (n : ℕ) (f : Farm) → At W B n f.slots (settle f).slots
  unfolding settle
  settle_at n f = opened_goes (with_met f) 0 f.slots n

  module _ (change : ℕ → ℕ) (raises : RaisesWithin change) (rises : (version : ℕ) → W → version < LAST_VERSION → version < change version) where
    blocked_if : (s : SlotRow) (b : Bool) → SlotGoes W B (Some s) (Some (cond b (blocked_row change s) s))
    blocked_if s false = goes_same W B (Some s)
    blocked_if s true = blocked_row_goes W B change raises rises s

    blocked_goes : (f : Farm) (slot : ℕ) (ss : List SlotRow) (n : ℕ) → SlotGoes W B (slice_get ss n) (slice_get (blocked_from change f slot ss) n)
    blocked_goes f slot [] n = goes_same W B None
    blocked_goes f slot (s ∷ ss) zero = blocked_if s (blocks f slot s)
    blocked_goes f slot (s ∷ ss) (suc n) = blocked_goes f (slot + 1) ss n

    pub block_at : (n : ℕ) (f : Farm) → At W B n f.slots (with_blocked change f).slots
    unfolding with_blocked
    block_at n f = blocked_goes f 0 f.slots n

-- a slot whose frame is open is as it was
unblocked_from : (change : ℕ → ℕ) (f : Farm) (from : ℕ) (ss : List SlotRow) (n : ℕ) (s : SlotRow) → slice_get ss n ≡ Some s
    → blocks f (from + n) s ≡ false → slice_get (blocked_from change f from ss) n ≡ Some s
unblocked_from change f from [] n s at free = absurd (none-some s at)
unblocked_from change f from (x ∷ xs) zero s at free =
    let here : from + 0 ≡ from = omega arith in
    let same = same_Some x s at in
    let shut : blocks f from x ≡ false = subst (λ (y : SlotRow). blocks f from y ≡ false) (sym same) (subst (λ (k : ℕ). blocks f k s ≡ false) here free) in
    ap (λ (b : Bool). Some (cond b (blocked_row change x) x)) shut ∙ at
unblocked_from change f from (x ∷ xs) (suc n) s at free =
    let next : from + suc n ≡ from + 1 + n = omega arith in
    unblocked_from change f (from + 1) xs n s at (subst (λ (k : ℕ). blocks f k s ≡ false) next free)

pub open_left : (change : ℕ → ℕ) (f : Farm) (n : ℕ) (s : SlotRow) → slice_get f.slots n ≡ Some s → is_open f n ≡ true
    → slice_get (with_blocked change f).slots n ≡ Some s
unfolding with_blocked
open_left change f n s at open_now =
    let here : n ≡ 0 + n = omega arith in
    unblocked_from change f 0 f.slots n s at (subst (λ (k : ℕ). blocks f k s ≡ false) here (and_right (on_frame is_waiting s.frame) _ (not_from_true (is_open f n) open_now)))

-- ---- a slot that waits, and its row

waiting_row : (o : Option SlotRow) → on_slot is_waiting o ≡ true → (s : SlotRow) × (o ≡ Some s) × (on_frame is_waiting s.frame ≡ true)
waiting_row None h = absurd (false≢true h)
waiting_row (Some s) h = (s, refl, h)

-- what is blocked leaves a slot that is open
same_left : (change : ℕ → ℕ) (o : Option SlotRow) (f : Farm) (n : ℕ) (s : SlotRow) → o ≡ Some s → slice_get f.slots n ≡ o → is_open f n ≡ true
    → slice_get (with_blocked change f).slots n ≡ slice_get f.slots n
same_left change o f n s is same open_now = open_left change f n s (same ∙ is) open_now ∙ sym (same ∙ is)

-- ---- a frame that is retried

module _ (B : Type 0) (f : Farm) (k : KeepsDepends f) (n : ℕ) where
  again_frames : (o : Option ℕ) → SameFrames f.slots (with_row_at f retried_row o).slots
  again_frames None = frames_same f.slots
  again_frames (Some slot) = changed_frames retried_row again_stays f.slots slot

  again_open : (o : Option ℕ) → is_open (with_row_at f retried_row o) n ≡ is_open f n
  again_open None = refl
  again_open (Some slot) =
      let now = with_row_at f retried_row (Some slot) in
      open_same f now (same_groups f now refl refl refl (again_frames (Some slot))) n

  retry_goes : (o : Option ℕ) → At (Unit {0}) B n f.slots (with_row_at f retried_row o).slots
      → At (Unit {0}) B n f.slots (with_blocked kept_version (with_row_at f retried_row o)).slots
  retry_goes o first =
      let now = with_row_at f retried_row o in
      goes_left (Unit {0}) B (slice_get f.slots n) (slice_get now.slots n) (slice_get (with_blocked kept_version now).slots n) first
      (block_at ⊥ B kept_version kept_raises (λ version none below. absurd none) n now)
      (λ waits same.
      let s = waiting_row (slice_get f.slots n) waits in
      same_left kept_version (slice_get f.slots n) now n s.0 s.1 same (again_open o ∙ waiting_open f k n s.0 s.1 s.2))

-- ---- a job that is submitted

module _ (B : Type 0) (f : Farm) (rows : KeepsRows f) (k : KeepsDepends f) (n : ℕ) (spec : JobSpec) (show : ℕ) where
  abbrev with_it : Farm
  with_it = after_submit f spec (Some show)

  row_left : (o now : Option SlotRow) → Fills o now → on_slot is_waiting o ≡ true → now ≡ o
  row_left o now (inl e) h = e
  row_left o now (inr new) h = absurd (empty_waits (Unit {0}) B o new.0 h)

  -- a slot that waits keeps its row
  there : on_slot is_waiting (slice_get f.slots n) ≡ true → slice_get with_it.slots n ≡ slice_get f.slots n
  there h = row_left (slice_get f.slots n) (slice_get with_it.slots n) (placed_fills f.slots (frames_of f.next_job 0 spec.layers) (job_waits f.next_job 0 spec.layers) n) h

  -- whose frame isn't of the new job
  other_job : (s : SlotRow) → slice_get f.slots n ≡ Some s → slice_get with_it.slots n ≡ Some s → HoldsOf with_it.slots f.next_job n → ⊥
  other_job s before now h =
      let row : h.1.row ≡ s = same_Some h.1.row s (sym h.1.at ∙ now) in
      let frame : s.frame ≡ Some h.0 = ap (λ (x : SlotRow). x.frame) (sym row) ∙ h.1.frame_is in
      let below = pending_before f rows k h.0.job (frame_pending f rows n s h.0 before frame) in
      let is = h.2 in
      absurd (omega (arith, below, is))

  module _ (accepted : submit_refusal f spec (Some show) ≡ None) (kept : KeepsRows with_it) (first : At (Unit {0}) B n f.slots with_it.slots) where
    depends_left : (specs : List DependSpec) → AllByRecursion (IsFormedOwn spec.name) specs → depends_refusal with_it specs ≡ None
        → At (Unit {0}) B n f.slots (with_depends with_it specs).slots
    depends_left [] formed none = first
    depends_left (d ∷ ds) formed none =
        let all = add_depends with_it (d ∷ ds) in
        let made = submit_keeps f rows k spec (Some show) in
        let slots : all.slots ≡ with_it.slots = adds_slots with_it (d ∷ ds) in
        goes_left (Unit {0}) B (slice_get f.slots n) (slice_get (settle all).slots n) (slice_get (with_blocked kept_version (settle all)).slots n)
        (at_then (Unit {0}) B n f.slots all.slots (settle all).slots (subst (At (Unit {0}) B n f.slots) (sym slots) first) (settle_at (Unit {0}) B n all))
        (block_at ⊥ B kept_version kept_raises (λ version none below. absurd none) n (settle all))
        (λ waits same.
        let s = waiting_row (slice_get f.slots n) waits in
        let now : slice_get with_it.slots n ≡ Some s.0 = there waits ∙ s.1 in
        let open_now = waiting_open with_it made n s.0 now s.2 in
        let still = open_adds with_it spec.name f.next_job n (d ∷ ds) kept formed none (named_next f spec show accepted) (other_job s.0 s.1 now) open_now in
        same_left kept_version (slice_get f.slots n) (settle all) n s.0 s.1 same (open_settled all all.next_depend n (rise_adds with_it (d ∷ ds) made.rise) still))
      where
        adds_slots : (g : Farm) (specs : List DependSpec) → (add_depends g specs).slots ≡ g.slots
        adds_slots g [] = refl
        adds_slots g (spec ∷ specs) = adds_slots (add_depend g spec) specs

submit_goes : (B : Type 0) (f : Farm) → KeepsRows f → KeepsDepends f → (n : ℕ) (spec : JobSpec) (o : Option ℕ) → submit_refusal f spec o ≡ None
    → KeepsRows (after_submit f spec o)
    → At (Unit {0}) B n f.slots (after_submit f spec o).slots → AllByRecursion (IsFormedOwn spec.name) spec.depends → depends_refusal (after_submit f spec o) spec.depends ≡ None
    → At (Unit {0}) B n f.slots (with_depends (after_submit f spec o) spec.depends).slots
submit_goes B f rows k n spec None accepted kept first formed none = absurd (none-some _ (sym accepted))
submit_goes B f rows k n spec (Some show) accepted kept first formed none = depends_left B f rows k n spec show accepted kept first spec.depends formed none

-- ---- each act with what follows

module _ (f : Farm) (moment : ℕ) (rows : KeepsRows f) (k : KeepsDepends f) (n : ℕ) where
  pub follow_at : (act : Act) → IsFormedAct act → act_refusal f act ≡ None → follow_refusal f act ≡ None → KeepsRows (after_act f moment act)
      → At (Unit {0}) (IsBookingOf act n) n f.slots (after_act f moment act).slots → At (Unit {0}) (IsBookingOf act n) n f.slots (followed act (after_act f moment act)).slots
  follow_at (Heard heard) formed accepted none kept first =
      let now = after_act f moment (Heard heard) in
      at_then (Unit {0}) (IsBookingOf (Heard heard) n) n f.slots now.slots (settle now).slots first (settle_at (Unit {0}) (IsBookingOf (Heard heard) n) n now)
  follow_at (Submit spec) formed accepted none kept first =
      submit_goes (IsBookingOf (Submit spec) n) f rows k n spec (show_named f spec.show) accepted kept first (recursion_from_All (IsFormedOwn spec.name) spec.depends formed.each_depend) none
  follow_at (AddDepend spec) formed accepted none kept first =
      let B = IsBookingOf (AddDepend spec) n in
      let more = add_depend f spec in
      at_then (Unit {0}) B n f.slots (settle more).slots (with_blocked raised (settle more)).slots (settle_at (Unit {0}) B n more)
      (block_at (Unit {0}) B raised raised_raises (λ version w below. let rose = raised_above version below in omega (arith, rose)) n (settle more))
  follow_at (DropDepend depend) formed accepted none kept first = settle_at (Unit {0}) (IsBookingOf (DropDepend depend) n) n (dropped f depend)
  follow_at (KillJob job) formed accepted none kept first =
      let now = after_act f moment (KillJob job) in
      at_then (Unit {0}) (IsBookingOf (KillJob job) n) n f.slots now.slots (settle now).slots first (settle_at (Unit {0}) (IsBookingOf (KillJob job) n) n now)
  follow_at (EatFrame p) formed accepted none kept first =
      let now = after_act f moment (EatFrame p) in
      at_then (Unit {0}) (IsBookingOf (EatFrame p) n) n f.slots now.slots (settle now).slots first (settle_at (Unit {0}) (IsBookingOf (EatFrame p) n) n now)
  follow_at (RetryFrame p) formed accepted none kept first = retry_goes (IsBookingOf (RetryFrame p) n) f k n (slot_named f p) first
  follow_at act formed accepted none kept first = first

-- ---- refusals at another moment

module _ (moment : ℕ) where
  depend_later : (f : Farm) (spec : DependSpec) → depend_refusal (at_moment f moment) spec ≡ depend_refusal f spec
  unfolding depend_refusal groups_of
  depend_later f spec = refl

  depends_later : (f : Farm) (specs : List DependSpec) → depends_refusal (at_moment f moment) specs ≡ depends_refusal f specs
  depends_later f [] = refl
  depends_later f (spec ∷ specs) =
      ap (λ (o : Option Refusal). or_else o (depends_refusal (add_depend (at_moment f moment) spec) specs)) (depend_later f spec)
      ∙ ap (or_else (depend_refusal f spec)) (depends_later (add_depend f spec) specs)

  submit_later : (f : Farm) (spec : JobSpec) (o : Option ℕ) → after_submit (at_moment f moment) spec o ≡ at_moment (after_submit f spec o) moment
  submit_later f spec None = refl
  submit_later f spec (Some show) = refl

  follow_later : (f : Farm) (act : Act) → follow_refusal (at_moment f moment) act ≡ follow_refusal f act
  follow_later f (Submit spec) =
      ap (λ (g : Farm). depends_refusal g spec.depends) (submit_later f spec (show_named f spec.show)) ∙ depends_later (after_submit f spec (show_named f spec.show)) spec.depends
  follow_later f (AddDepend spec) = depend_later f spec
  follow_later f act = refl

-- what becomes of a slot by an entry, before jobs finish
pub entry_at : (f : Farm) (e : Entry) (n : ℕ) → IsKeptFarm f → IsLegalStep f e
    → At (Unit {0}) (IsBookingOf e.act n) n f.slots (followed e.act (acted f e)).slots
entry_at f e n k legal =
    let moment = moment_of f e.moment in
    let later = at_moment f moment in
    let rows = kept_later f moment (omega arith) (omega (arith, k.rows.moment_within, legal.formed.moment_within)) k.rows in
    let accepted = refusal_later f moment e.act ∙ act_accepted f e legal in
    follow_at later moment rows (later_keeps f moment k.depends) n e.act legal.formed.act_formed accepted
    (follow_later moment f e.act ∙ follow_accepted f e legal) (kept_acted f e legal.formed (act_accepted f e legal) legal.condition k.rows)
    (act_at (Unit {0}) later moment n e.act accepted (allowed_later f moment e.act legal.condition) rows.sound)
