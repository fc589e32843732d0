-- What a farm says of a slot with a frame.
use Rattle.std.proofs.Common.{◌≡◌, ℕ, true, false, eqb, Option, Some, None, refl, sym, ap, ◌∙◌, arith}
use Rattle.std.specs.List.{slice_get}
use Rattle.std.proofs.lemmas.Bool.{true≢false}
use Rattle.booking_rule.specs.Link.{host_where, limit_code, phase_of, slot_stand, stand_at}
use Rattle.booking_rule.specs.Recorded.{Stand}
use Rattle.farm_types.specs.declared.rows.JobRow.{JobRow}
use Rattle.farm_types.specs.declared.rows.LayerRow.{LayerRow}
use Rattle.farm_types.specs.declared.slot_row.Frame.{Frame}
use Rattle.farm_types.specs.declared.slot_row.SlotRow.{SlotRow}
use Rattle.farm_types.specs.declared.states.FrameState.{FrameState}
use Rattle.farm_types.specs.declared.states.FrameState.TheVariants as frame_state
use Rattle.farm_types.specs.Booking.{is_waiting, version_of}
use Rattle.farm_types.specs.DependActs.{is_running}
use Rattle.farm_types.specs.Farm.{Farm, job_at, layer_at}
use Rattle.farm_types.specs.Kept.{KeepsRows}
use Rattle.entry_law.proofs.FrameRows.{frame_rows}
use Rattle.entry_law.proofs.RowsOf.{RowsOf}
use Rattle.entry_law.proofs.SlotGoes.{belongs}

abbrev pub the_stand : SlotRow → Frame → ℕ → LayerRow → Stand
the_stand s x show l =
    record {
      phase = phase_of x.state;
      version = s.version;
      host = host_where x.state s.proc;
      cores = l.cores;
      show = show;
      limit = limit_code l.limit;
      memory = l.memory;
    }

pub stand_made : (f : Farm) (n : ℕ) → stand_at f n ≡ slot_stand f (slice_get f.slots n)
unfolding stand_at
stand_made f n = refl

pub stand_is : (f : Farm) (n : ℕ) (s : SlotRow) (x : Frame) (j : JobRow) (l : LayerRow) → slice_get f.slots n ≡ Some s → s.frame ≡ Some x
    → job_at f x.job ≡ Some j → layer_at f x.job x.layer ≡ Some l
    → stand_at f n ≡ the_stand s x j.show l
unfolding stand_at
stand_is f n s x j l at is job layer = rw at (rw is (rw job (rw layer refl)))

-- ---- the version

version_by : (f : Farm) (s : SlotRow) (frame : Option Frame) → s.frame ≡ frame → (slot_stand f (Some s)).version ≡ s.version
version_by f s None is = rw is refl
version_by f s (Some x) is = rw is refl

option_version : (f : Farm) (o : Option SlotRow) → (slot_stand f o).version ≡ version_of o
option_version f None = refl
option_version f (Some s) = version_by f s s.frame refl

pub version_is : (f : Farm) (n : ℕ) → (stand_at f n).version ≡ version_of (slice_get f.slots n)
version_is f n = ap (λ (s : Stand). s.version) (stand_made f n) ∙ option_version f (slice_get f.slots n)

-- ---- the phase

-- the slot has the frame
pub record HasFrame (f : Farm) (n : ℕ) : Type 0 where
  pub row : SlotRow
  pub frame : Frame
  pub at : slice_get f.slots n ≡ Some row
  pub is : row.frame ≡ Some frame
  pub phase : (stand_at f n).phase ≡ phase_of frame.state

frame_by : (f : Farm) (n : ℕ) (s : SlotRow) (frame : Option Frame) → slice_get f.slots n ≡ Some s → s.frame ≡ frame
    → eqb (slot_stand f (Some s)).phase 0 ≡ false → HasFrame f n
frame_by f n s None at is some =
    let none : eqb (slot_stand f (Some s)).phase 0 ≡ true = rw is refl in
    absurd (true≢false (sym none ∙ some))
frame_by f n s (Some x) at is some =
    let phase : (slot_stand f (Some s)).phase ≡ phase_of x.state = rw is refl in
    record { row = s; frame = x; at = at; is = is; phase = ap (λ (t : Stand). t.phase) (stand_made f n) ∙ (ap (λ (o : Option SlotRow). (slot_stand f o).phase) at ∙ phase) }

frame_at : (f : Farm) (n : ℕ) (o : Option SlotRow) → slice_get f.slots n ≡ o → eqb (slot_stand f o).phase 0 ≡ false → HasFrame f n
frame_at f n None at some = absurd (true≢false some)
frame_at f n (Some s) at some = frame_by f n s s.frame at refl some

pub has_frame : (f : Farm) (n : ℕ) → eqb (stand_at f n).phase 0 ≡ false → HasFrame f n
has_frame f n some = frame_at f n (slice_get f.slots n) refl (ap (λ (s : Stand). eqb s.phase 0) (sym (stand_made f n)) ∙ some)

phase_waits : (state : FrameState) → phase_of state ≡ 1 → is_waiting state ≡ true
phase_waits frame_state.Waiting h = refl
phase_waits frame_state.Depend h = absurd (omega (arith, h))
phase_waits frame_state.Setup h = absurd (omega (arith, h))
phase_waits frame_state.Running h = absurd (omega (arith, h))
phase_waits frame_state.Succeeded h = absurd (omega (arith, h))
phase_waits frame_state.Dead h = absurd (omega (arith, h))
phase_waits frame_state.Eaten h = absurd (omega (arith, h))

phase_runs : (state : FrameState) → phase_of state ≡ 4 → is_running state ≡ true
phase_runs frame_state.Running h = refl
phase_runs frame_state.Waiting h = absurd (omega (arith, h))
phase_runs frame_state.Depend h = absurd (omega (arith, h))
phase_runs frame_state.Setup h = absurd (omega (arith, h))
phase_runs frame_state.Succeeded h = absurd (omega (arith, h))
phase_runs frame_state.Dead h = absurd (omega (arith, h))
phase_runs frame_state.Eaten h = absurd (omega (arith, h))

some_phase : (phase : ℕ) (n : ℕ) → phase ≡ n → eqb n 0 ≡ false → eqb phase 0 ≡ false
some_phase phase n is some = ap (λ (k : ℕ). eqb k 0) is ∙ some

pub waiting_frame : (f : Farm) (n : ℕ) → (stand_at f n).phase ≡ 1 → (h : HasFrame f n) × (is_waiting h.frame.state ≡ true)
waiting_frame f n is = let h = has_frame f n (some_phase (stand_at f n).phase 1 is refl) in (h, phase_waits h.frame.state (sym h.phase ∙ is))

pub running_frame : (f : Farm) (n : ℕ) → (stand_at f n).phase ≡ 4 → (h : HasFrame f n) × (is_running h.frame.state ≡ true)
running_frame f n is = let h = has_frame f n (some_phase (stand_at f n).phase 4 is refl) in (h, phase_runs h.frame.state (sym h.phase ∙ is))

-- ---- a slot that is as it was

pub same_stand : (f g : Farm) (n : ℕ) (s : SlotRow) (x : Frame) → KeepsRows f → slice_get f.slots n ≡ Some s → s.frame ≡ Some x
    → slice_get g.slots n ≡ Some s → RowsOf f g (belongs x) → stand_at g n ≡ stand_at f n
same_stand f g n s x rows at is now stays =
    let r = frame_rows f rows n s x at is in
    let j = stays.job r.job_row r.job_is r.pending in
    let l = stays.layer r.layer_row r.layer_is in
    stand_is g n s x j.0 r.layer_row now is j.1 l
    ∙ (ap (λ (show : ℕ). the_stand s x show r.layer_row) j.2 ∙ sym (stand_is f n s x r.job_row r.layer_row at is r.job_is r.layer_is))
