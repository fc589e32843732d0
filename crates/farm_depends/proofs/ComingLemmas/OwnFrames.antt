-- A job that was placed: it is the pending job of its name, and its frames wait.
use Rattle.std.proofs.Common.{◌≡◌, ℕ, ◌<◌, Bool, true, false, cond, eqb, leb, ◌&&◌, List, [], ◌∷◌, Option, Some, None, refl, ap, sym, subst, ◌∙◌, arith, inl, inr}
use Rattle.std.specs.List.{find, list_any, slice_get}
use Rattle.std.proofs.lemmas.Bool.{eqb-true, or_parts}
use Rattle.std.proofs.lemmas.Cmp.{nat_list_eq_equiv}
use Rattle.std.proofs.lemmas.Option.{none-some}
use Rattle.farm_types.specs.declared.job.JobSpec.{JobSpec}
use Rattle.farm_types.specs.declared.refusal.Refusal.{Refusal}
use Rattle.farm_types.specs.declared.refusal.Refusal.TheVariants.{Exists, Unknown}
use Rattle.farm_types.specs.declared.rows.LayerRow.{LayerRow}
use Rattle.farm_types.specs.declared.slot_row.Frame.{Frame}
use Rattle.farm_types.specs.declared.slot_row.SlotRow.{SlotRow}
use Rattle.farm_types.specs.declared.limits.TheConstants.{LAST_VERSION}
use Rattle.farm_types.specs.Booking.{is_waiting}
use Rattle.farm_types.specs.DependActs.{number_of, pending_named}
use Rattle.farm_types.specs.Farm.{Farm, has_facility, for_any, layer_in}
use Rattle.farm_types.specs.Jobs.{frames_of, is_pending_named, job_row, layers_refusal, repeated_name, without_finished}
use Rattle.farm_types.specs.Kept.{KeepsDepends, KeepsRows, is_kept_frame, is_kept_slot, is_of_pending}
use Rattle.farm_types.specs.Step.{after_submit, limits_refusal, lists_of, submit_refusal, unknown_limit}
use Rattle.farm_types.proofs.Lists.{and_both, find_passes, for_some_true, found_is, list_all-at}
use Rattle.farm_law.proofs.KeptJobsLists.{found_later}
use Rattle.farm_law.proofs.KeptLimits.{limits_known}
use Rattle.farm_law.proofs.KeptNames.{accepted_by}
use Rattle.farm_law.proofs.Placed.{job_waits}
use Rattle.depend_law.proofs.Filled.{Fills, placed_fills}
use Rattle.depend_law.proofs.NewJob.{pending_before}
use Rattle.depend_law.proofs.Placed.{Holds}
use Rattle.depend_law.proofs.Turns.{on_frame, on_slot}
use Rattle.farm_depends.proofs.ComingLemmas.LeftNames.{pending_left}

refused_first : (b : Bool) (x : Refusal) (rest : Option Refusal) → cond b (Some x) rest ≡ None → b ≡ false
refused_first true x rest none = absurd (none-some x (sym none))
refused_first false x rest none = refl

none_found : {X : Type 0} (test : X → Bool) (xs : List X) → list_any test xs ≡ false → find test xs ≡ None
none_found test [] none = refl
none_found test (x ∷ xs) none =
    let both = or_parts (test x) (list_any test xs) none in
    ap (λ (b : Bool). cond b (Some x) (find test xs)) both.0 ∙ none_found test xs both.1

module _ (f : Farm) (rows : KeepsRows f) (spec : JobSpec) where
  -- the pending job of its name is the new one
  pub named_next : (o : Option ℕ) → submit_refusal f spec o ≡ None → number_of (pending_named (after_submit f spec o) spec.name) ≡ f.next_job
  named_next None none = absurd (none-some (Unknown spec.show) (sym none))
  named_next (Some show) none =
      let unknown = unknown_limit f.limits spec.layers in
      let taken = (limits_known f spec unknown (accepted_by (has_facility f spec.facility) (limits_refusal f spec unknown) (Unknown spec.facility) none)).1 in
      let new = refused_first (list_any (is_pending_named spec.name) f.jobs) (Exists spec.name) (layers_refusal (lists_of f) spec (repeated_name [] spec.layers)) taken in
      ap number_of
      (found_later (is_pending_named spec.name) (without_finished spec.name f.jobs) (job_row f.next_job show spec ∷ []) (pending_left spec.name spec.name f.jobs ∙ none_found (is_pending_named spec.name) f.jobs new)
      ∙ ap (λ (b : Bool). cond b (Some (job_row f.next_job show spec)) None) (nat_list_eq_equiv.refl spec.name))

  module _ (k : KeepsDepends f) where
    -- a frame that was there is of a job that was
    frame_before : (slot : ℕ) (x : Frame) → Holds f.slots slot x → x.job < f.next_job
    frame_before slot x h =
        let slot_kept = list_all-at (is_kept_slot f.layers) f.slots slot h.row rows.jobs.slots_kept h.at in
        let frame_kept : is_kept_frame f.layers x ≡ true =
        ap (λ (o : Option Frame). for_any o (is_kept_frame f.layers)) (sym h.frame_is)
        ∙ (and_both (leb h.row.version LAST_VERSION) (for_any h.row.frame (is_kept_frame f.layers)) slot_kept).1 in
        let l = for_some_true (layer_in f.layers x.job x.layer) _ (and_both _ _ frame_kept).0 in
        let wanted : LayerRow → Bool = λ (row : LayerRow). eqb row.job x.job && eqb row.place x.layer in
        let owned = find_passes wanted (λ (row : LayerRow). is_of_pending f.jobs row.job) f.layers l.0 rows.jobs.layers_owned l.1 in
        let number = eqb-true l.0.job x.job (and_both (eqb l.0.job x.job) (eqb l.0.place x.layer) (found_is wanted f.layers l.0 l.1)).0 in
        subst (λ (job : ℕ). job < f.next_job) number (pending_before f rows k l.0.job owned)

    new_waits : (n : Option SlotRow) (slot : ℕ) (x : Frame) → Fills (slice_get f.slots slot) n → (row : SlotRow) → n ≡ Some row → row.frame ≡ Some x → x.job ≡ f.next_job → is_waiting x.state ≡ true
    new_waits n slot x (inl stays) row at frame_is new =
        let before = frame_before slot x (record { row = row; at = sym stays ∙ at; frame_is = frame_is }) in
        absurd (omega (arith, before, new))
    new_waits n slot x (inr filled) row at frame_is new =
        ap (on_frame is_waiting) (sym frame_is) ∙ (ap (on_slot is_waiting) (sym at) ∙ filled.1)

    -- each of its frames waits
    pub own_waits : (o : Option ℕ) → submit_refusal f spec o ≡ None → (slot : ℕ) (x : Frame) → Holds (after_submit f spec o).slots slot x → x.job ≡ f.next_job → is_waiting x.state ≡ true
    own_waits None none slot x h new = absurd (none-some (Unknown spec.show) (sym none))
    own_waits (Some show) none slot x h new =
        new_waits (slice_get (after_submit f spec (Some show)).slots slot) slot x
        (placed_fills f.slots (frames_of f.next_job 0 spec.layers) (job_waits f.next_job 0 spec.layers) slot) h.row h.at h.frame_is new
