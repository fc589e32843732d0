-- The waiting frame that is found, as the book of jobs shows it.
use Rattle.std.proofs.Common.{◌≡◌, ℕ, ◌+◌, ◌-◌, ◌≤◌, ◌<◌, true, List, length, Option, Some, None, refl, subst}
use Rattle.std.specs.List.{slice_get}
use Rattle.std.specs.Prelude.{is_some, option_map, option_and_then}
use Rattle.std.proofs.lemmas.Option.{same_Some, none-some}
use Rattle.farm_types.specs.declared.dispatch.Candidate.{Candidate}
use Rattle.farm_types.specs.declared.rows.LayerRow.{LayerRow}
use Rattle.farm_types.specs.declared.slot_row.Frame.{Frame}
use Rattle.farm_types.specs.declared.slot_row.SlotRow.{SlotRow}
use Rattle.farm_types.specs.declared.limits.TheConstants.{CANDIDATES_EACH}
use Rattle.farm_types.specs.Booking.{is_waiting, may_book}
use Rattle.farm_types.specs.Farm.{Farm, for_some, layer_at}
use Rattle.farm_types.specs.Kept.{KeepsRows}
use Rattle.farm_types.specs.Ranges.{range_numbers}
use Rattle.farm_types.specs.Step.{lists_of}
use Rattle.job_book.specs.declared.reading.frame_view.FrameView.{FrameView}
use Rattle.job_book.specs.Book.{frame_at, frame_view, has_frame}
use Rattle.job_book.specs.Index.{IsFirstWaiting, waits_in}
use Rattle.dispatch_law.specs.ByIndex.{ranks_at}
use Rattle.dispatch_plan.specs.Offers.{IsBilled, offered, with_candidate}
use Rattle.dispatch_plan.proofs.Steps.{offer_step}

framed_by : (o : Option Frame) → for_some o (λ x. is_waiting x.state) ≡ true → is_some o ≡ true
framed_by None h = h
framed_by (Some x) h = refl

row_by : (o : Option SlotRow) → for_some o (λ s. for_some s.frame (λ x. is_waiting x.state)) ≡ true → for_some o (λ s. is_some s.frame) ≡ true
row_by None h = h
row_by (Some s) h = framed_by s.frame h

-- a slot whose frame waits has one
pub waiting_framed : (f : Farm) (slot : ℕ) → waits_in f.slots slot ≡ true → has_frame (lists_of f) slot ≡ true
waiting_framed f slot h = row_by (slice_get f.slots slot) h

-- the row and the frame that are shown
pub record IsSeen (o : Option SlotRow) (v : FrameView) : Type 0 where
  pub row : SlotRow
  pub frame : Frame
  pub at : o ≡ Some row
  pub framed : row.frame ≡ Some frame
  pub view : frame_view row.version frame ≡ v

seen_in : (s : SlotRow) (v : FrameView) (o : Option Frame) → s.frame ≡ o → option_map (frame_view s.version) o ≡ Some v → IsSeen (Some s) v
seen_in s v None e shown = absurd (none-some v shown)
seen_in s v (Some x) e shown = record { row = s; frame = x; at = refl; framed = e; view = same_Some (frame_view s.version x) v shown }

pub seen : (o : Option SlotRow) (v : FrameView) → option_and_then (λ (s : SlotRow). option_map (frame_view s.version) s.frame) o ≡ Some v → IsSeen o v
seen None v shown = absurd (none-some v shown)
seen (Some s) v shown = seen_in s v s.frame refl shown

-- what the layer still offers, from its next waiting frame on
abbrev pub IsOffer : Farm → ℕ → ℕ → ℕ → ℕ → ℕ → ℕ → ℕ → List Candidate → FrameView → Type 0
IsOffer f host job layer sub from slot count plan v =
    (from ≤ v.position) × (v.position < count)
    × (offered plan (ranks_at f host job layer from (count - from))
    ≡ offered (with_candidate (may_book f slot host) plan (record { slot = slot; version = v.version; sub = sub; host = host }))
    (ranks_at f host job layer (v.position + 1) (count - (v.position + 1))))

-- one step: the frame is offered
pub view_step : (f : Farm) (host job layer sub from slot : ℕ) (l : LayerRow) (v : FrameView) (plan : List Candidate) → KeepsRows f → layer_at f job layer ≡ Some l → IsBilled f host job sub
    → IsFirstWaiting (lists_of f) job layer from slot → frame_at (lists_of f) slot ≡ Some v → length plan + 1 ≤ CANDIDATES_EACH
    → IsOffer f host job layer sub from slot (length (range_numbers l.range)) plan v
view_step f host job layer sub from slot l v plan kept layered billed first shown room =
    let it = seen (slice_get f.slots slot) v shown in
    subst (IsOffer f host job layer sub from slot (length (range_numbers l.range)) plan) it.view (offer_step f host job layer sub from slot l it.row it.frame plan kept layered billed first it.at it.framed room)
