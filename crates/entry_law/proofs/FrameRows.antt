-- The rows of a frame: its layer is there, and its job is there and pending.
use Rattle.std.proofs.Common.{◌≡◌, ℕ, Bool, true, ◌&&◌, eqb, leb, Option, Some, sym, ap, subst, ◌∙◌}
use Rattle.std.specs.List.{find, slice_get}
use Rattle.std.proofs.lemmas.Bool.{eqb-true}
use Rattle.farm_types.specs.declared.limits.TheConstants.{LAST_VERSION}
use Rattle.farm_types.specs.declared.rows.JobRow.{JobRow}
use Rattle.farm_types.specs.declared.rows.LayerRow.{LayerRow}
use Rattle.farm_types.specs.declared.slot_row.Frame.{Frame}
use Rattle.farm_types.specs.declared.slot_row.SlotRow.{SlotRow}
use Rattle.farm_types.specs.Booking.{is_pending}
use Rattle.farm_types.specs.Farm.{Farm, for_any, job_at, layer_at, layer_in}
use Rattle.farm_types.specs.Kept.{KeepsRows, is_kept_frame, is_kept_slot, is_of_pending, is_pending_job}
use Rattle.farm_types.proofs.Lists.{and_both, find_passes, for_some_true, found_is, list_all-at}

pub record FrameRows (f : Farm) (job layer : ℕ) : Type 0 where
  pub layer_row : LayerRow
  pub layer_is : layer_at f job layer ≡ Some layer_row
  pub job_row : JobRow
  pub job_is : job_at f job ≡ Some job_row
  pub pending : is_pending job_row.state ≡ true

pub frame_rows : (f : Farm) → KeepsRows f → (n : ℕ) (s : SlotRow) (x : Frame) → slice_get f.slots n ≡ Some s → s.frame ≡ Some x → FrameRows f x.job x.layer
frame_rows f rows n s x at is =
    let slot_kept = list_all-at (is_kept_slot f.layers) f.slots n s rows.jobs.slots_kept at in
    let frame_kept : is_kept_frame f.layers x ≡ true =
    ap (λ (o : Option Frame). for_any o (is_kept_frame f.layers)) (sym is)
    ∙ (and_both (leb s.version LAST_VERSION) (for_any s.frame (is_kept_frame f.layers)) slot_kept).1 in
    let l = for_some_true (layer_in f.layers x.job x.layer) _ (and_both _ _ frame_kept).0 in
    let wanted : LayerRow → Bool = λ (row : LayerRow). eqb row.job x.job && eqb row.place x.layer in
    let owned = find_passes wanted (λ (row : LayerRow). is_of_pending f.jobs row.job) f.layers l.0 rows.jobs.layers_owned l.1 in
    let number = eqb-true l.0.job x.job (and_both (eqb l.0.job x.job) (eqb l.0.place x.layer) (found_is wanted f.layers l.0 l.1)).0 in
    let j = for_some_true (find (λ (k : JobRow). eqb k.job x.job) f.jobs) is_pending_job (subst (λ (job : ℕ). is_of_pending f.jobs job ≡ true) number owned) in
    record { layer_row = l.0; layer_is = l.1; job_row = j.0; job_is = j.1; pending = j.2 }

-- the frame's job is pending
pub frame_pending : (f : Farm) → KeepsRows f → (n : ℕ) (s : SlotRow) (x : Frame) → slice_get f.slots n ≡ Some s → s.frame ≡ Some x
    → is_of_pending f.jobs x.job ≡ true
frame_pending f rows n s x at is = let r = frame_rows f rows n s x at is in rw r.job_is r.pending
