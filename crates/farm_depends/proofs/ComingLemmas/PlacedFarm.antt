-- The farm with a job: its lists, its other jobs, and the job's own frames.
use Rattle.std.proofs.Common.{◌≡◌, ℕ, ℤ, suc, ◌+◌, ◌&&◌, Bool, true, false, not, eqb, List, [], ◌∷◌, ◌++◌, length, map, Option, Some, None, All, refl, sym, ap, ◌∙◌, arith, append-nil}
use Rattle.std.specs.List.{list_all, slice_get, position_or_len}
use Rattle.std.proofs.lemmas.Bool.{eq-eqb, eqb-true, ne_eqb, false≢true}
use Rattle.std.proofs.lemmas.List.Elements.{filter-append}
use Rattle.std.proofs.lemmas.List.Folds.{find_at}
use Rattle.std.proofs.lemmas.Option.{none-some}
use Rattle.farm_types.specs.declared.depend.LayerShape.{LayerShape}
use Rattle.farm_types.specs.declared.job.JobSpec.{JobSpec}
use Rattle.farm_types.specs.declared.job.LayerSpec.{LayerSpec}
use Rattle.farm_types.specs.declared.rows.LayerRow.{LayerRow}
use Rattle.farm_types.specs.declared.slot_row.Frame.{Frame}
use Rattle.farm_types.specs.declared.slot_row.SlotRow.{SlotRow}
use Rattle.farm_types.specs.declared.limits.TheConstants.{LAST_VERSION}
use Rattle.farm_types.specs.Booking.{is_waiting}
use Rattle.farm_types.specs.Depends.{layer_shape, or_first, shape_of, slots_placed}
use Rattle.farm_types.specs.Farm.{Farm, for_some, has_facility, is_placed, layers_of, show_named, slot_from, for_any, layer_in}
use Rattle.farm_types.specs.Formed.{IsFormedLayer}
use Rattle.farm_types.specs.Jobs.{frames_of, job_row, layer_row, layer_rows, limit_in, place_frames, without_finished}
use Rattle.farm_types.specs.Kept.{KeepsJobs, is_kept_frame, is_kept_slot}
use Rattle.farm_types.specs.Ranges.{range_numbers}
use Rattle.farm_types.specs.Step.{after_submit, limits_of, limits_refusal, lists_of, submit_refusal, unknown_limit}
use Rattle.farm_types.proofs.Lists.{and_both, for_some_true, found_is, list_all-at, list_all-from_at}
use Rattle.std.specs.Prelude.{leb}
use Rattle.farm_law.proofs.KeptJobsAdded.{Accepted, accepted}
use Rattle.farm_law.proofs.KeptJobsLayers.{all_of_job, layer_before, none_of_next, none_of_other}
use Rattle.farm_law.proofs.KeptJobsRows.{frame_kept}
use Rattle.farm_law.proofs.KeptLimits.{limits_known}
use Rattle.farm_law.proofs.KeptNames.{accepted_by}
use Rattle.depend_law.proofs.Placed.{HoldsOf}
use Rattle.depend_law.proofs.Shapes.{SameSlots, shape_found}
use Rattle.job_book.specs.Layers.{place_in}
use Rattle.job_book.proofs.PlacementLemmas.Placed.{all_of, all_placed}
use Rattle.job_book.proofs.PlacementLemmas.PlacedLayers.{none_new, other_job}
use Rattle.farm_depends.specs.Coming.{waits_at}
use Rattle.farm_depends.specs.Placed.{own_shapes, placed}

-- ---- its lists

-- the farm has the job's row, its layers and its frames more
pub record IsPlaced (f : Farm) (spec : JobSpec) (p : Farm) : Type 0 where
  pub show : ℕ
  pub limits : List (Option ℕ)
  pub jobs : p.jobs ≡ without_finished spec.name f.jobs ++ job_row f.next_job show spec ∷ []
  pub layers : p.layers ≡ f.layers ++ layer_rows f.next_job limits 0 spec.layers
  pub slots : p.slots ≡ place_frames f.slots (frames_of f.next_job 0 spec.layers)

placed_by : (f : Farm) (spec : JobSpec) (o : Option ℕ) → submit_refusal f spec o ≡ None → IsPlaced f spec (after_submit f spec o) × Accepted (lists_of f) spec
placed_by f spec None none = absurd (none-some _ (sym none))
placed_by f spec (Some show) none =
    let unknown = unknown_limit f.limits spec.layers in
    let taken = (limits_known f spec unknown (accepted_by (has_facility f spec.facility) (limits_refusal f spec unknown) _ none)).1 in
    (record { show = show; limits = limits_of f.limits spec.layers; jobs = refl; layers = refl; slots = refl }, accepted (lists_of f) spec taken)

pub placed_is : (f : Farm) (spec : JobSpec) → submit_refusal f spec (show_named f spec.show) ≡ None → IsPlaced f spec (placed f spec)
placed_is f spec none = (placed_by f spec (show_named f spec.show) none).0

pub job_accepted : (f : Farm) (spec : JobSpec) → submit_refusal f spec (show_named f spec.show) ≡ None → Accepted (lists_of f) spec
job_accepted f spec none = (placed_by f spec (show_named f spec.show) none).1

-- ---- other jobs

module _ (f : Farm) (spec : JobSpec) (p : Farm) (is : IsPlaced f spec p) (job : ℕ) (apart : eqb f.next_job job ≡ false) where
  same_layers : layers_of p.layers job ≡ layers_of f.layers job
  same_layers =
      ap (λ (ls : List LayerRow). layers_of ls job) is.layers ∙ (filter-append (λ (l : LayerRow). eqb l.job job) f.layers (layer_rows f.next_job is.limits 0 spec.layers)
      ∙ (ap (λ (ls : List LayerRow). layers_of f.layers job ++ ls) (none_of_other f.next_job job is.limits 0 spec.layers apart) ∙ append-nil (layers_of f.layers job)))

  same_slots : SameSlots f.slots p.slots job
  same_slots layer position =
      ap (slot_from 0 (is_placed job layer position)) is.slots
      ∙ none_new (is_placed job layer position) 0 f.slots (frames_of f.next_job 0 spec.layers) (other_job job layer position f.next_job 0 spec.layers apart)

  -- another job keeps its shape
  pub other_shape : shape_of p job ≡ shape_of f job
  other_shape = shape_found f.layers p.layers f.slots p.slots job same_layers same_slots

-- ---- the job's shape

placed_slots_are : (slots : List SlotRow) (job layer p : ℕ) (ns : List ℕ) (numbers : List ℤ) → ((k : ℕ) → slot_from 0 (is_placed job layer (p + k)) slots ≡ slice_get ns k) → length ns ≡ length numbers
    → slots_placed slots job layer p numbers ≡ ns
placed_slots_are slots job layer p [] [] found long = refl
placed_slots_are slots job layer p [] (n ∷ numbers) found long = absurd (omega arith)
placed_slots_are slots job layer p (s ∷ ss) [] found long = absurd (omega arith)
placed_slots_are slots job layer p (s ∷ ss) (n ∷ numbers) found long =
    let here : p ≡ p + 0 = omega arith in
    ap (λ (m : ℕ). m ∷ slots_placed slots job layer (p + 1) numbers) (ap (λ (q : ℕ). or_first (slot_from 0 (is_placed job layer q) slots)) here ∙ ap or_first (found 0))
    ∙ ap (λ (ms : List ℕ). s ∷ ms)
    (placed_slots_are slots job layer (p + 1) ss numbers (λ k. let e : p + 1 + k ≡ p + suc k = omega arith in ap (λ (q : ℕ). slot_from 0 (is_placed job layer q) slots) e ∙ found (suc k)) (omega arith))

abbrev own_shape : LayerSpec → List ℕ → LayerShape
own_shape m ms = record { name = m.name; numbers = m.numbers; slots = ms }

own_layers_are : (slots : List SlotRow) (job : ℕ) (layer_limits : List (Option ℕ)) (p : ℕ) (ls : List LayerSpec) (lists : List (List ℕ)) → All IsFormedLayer ls → ((layer position : ℕ) → slot_from 0 (is_placed job (p + layer) position) slots ≡ place_in lists layer position)
    → map (λ (ns : List ℕ). length ns) lists ≡ map (λ (l : LayerSpec). length l.numbers) ls → own_shapes ls lists ≡ map (layer_shape slots) (layer_rows job layer_limits p ls)
own_layers_are slots job layer_limits p [] lists formed found counts = refl
own_layers_are slots job layer_limits p (l ∷ ls) [] formed found counts = absurd (cc)
own_layers_are slots job layer_limits p (l ∷ ls) (ns ∷ lists) formed found counts =
    let first : length ns ≡ length l.numbers = cc in
    let others : map (λ (ms : List ℕ). length ms) lists ≡ map (λ (m : LayerSpec). length m.numbers) ls = cc in
    let numbers : l.numbers ≡ range_numbers l.range = (formed 0 l (omega arith)).numbers_are in
    let here : p ≡ p + 0 = omega arith in
    let slots_are = placed_slots_are slots job p 0 ns (range_numbers l.range) (λ k. let e : 0 + k ≡ k = omega arith in ap (λ (q : ℕ). slot_from 0 (is_placed job p q) slots) e ∙ (ap (λ (q : ℕ). slot_from 0 (is_placed job q k) slots) here ∙ found 0 k)) (first ∙ ap length numbers) in
    let shape : own_shape l ns ≡ layer_shape slots (layer_row job p (limit_in layer_limits p) l) = λ i. record { name = l.name; numbers = numbers i; slots = (sym slots_are) i } in
    ap (λ (s : LayerShape). s ∷ own_shapes ls lists) shape
    ∙ ap (λ (ss : List LayerShape). layer_shape slots (layer_row job p (limit_in layer_limits p) l) ∷ ss)
    (own_layers_are slots job layer_limits (p + 1) ls lists (λ k d within. formed (suc k) d (omega arith))
    (λ layer position. let e : p + 1 + layer ≡ p + suc layer = omega arith in ap (λ (q : ℕ). slot_from 0 (is_placed job q position) slots) e ∙ found (suc layer) position) others)

module _ (f : Farm) (spec : JobSpec) (p : Farm) (is : IsPlaced f spec p) (shows : ℕ) (keeps : KeepsJobs (lists_of f) shows) where
  own_rows : layers_of p.layers f.next_job ≡ layer_rows f.next_job is.limits 0 spec.layers
  own_rows =
      ap (λ (ls : List LayerRow). layers_of ls f.next_job) is.layers ∙ (filter-append (λ (l : LayerRow). eqb l.job f.next_job) f.layers (layer_rows f.next_job is.limits 0 spec.layers)
      ∙ (ap (λ (ls : List LayerRow). ls ++ layers_of (layer_rows f.next_job is.limits 0 spec.layers) f.next_job) (none_of_next f.layers f.next_job keeps.layers_rise) ∙ all_of_job f.next_job is.limits 0 spec.layers))

  -- the shape from the slots that the frames take
  pub own_shape_is : All IsFormedLayer spec.layers → (lists : List (List ℕ))
      → ((layer position : ℕ) → slot_from 0 (is_placed f.next_job layer position) (place_frames f.slots (frames_of f.next_job 0 spec.layers)) ≡ place_in lists layer position)
      → map (λ (ns : List ℕ). length ns) lists ≡ map (λ (l : LayerSpec). length l.numbers) spec.layers → record { layers = own_shapes spec.layers lists } ≡ shape_of p f.next_job
  own_shape_is formed lists found counts =
      let shapes =
      own_layers_are p.slots f.next_job is.limits 0 spec.layers lists formed
      (λ layer position. let e : 0 + layer ≡ layer = omega arith in ap (λ (q : ℕ). slot_from 0 (is_placed f.next_job q position) p.slots) e ∙ (ap (slot_from 0 (is_placed f.next_job layer position)) is.slots ∙ found layer position)) counts in
      λ i. record { layers = (shapes ∙ ap (map (layer_shape p.slots)) (sym own_rows)) i }

  -- ---- its frames

  abbrev idle : Option Frame → Bool
  idle o = not (for_some o (λ x. eqb x.job f.next_job && not (is_waiting x.state)))

  not_new : (x : Frame) → is_kept_frame f.layers x ≡ true → idle (Some x) ≡ true
  not_new x kept =
      let l = for_some_true (layer_in f.layers x.job x.layer) _ (frame_kept f.layers x kept).number in
      let at = sym (find_at (λ (k : LayerRow). eqb k.job x.job && eqb k.place x.layer) f.layers) ∙ l.1 in
      let before = layer_before f.layers f.next_job (position_or_len (λ (k : LayerRow). eqb k.job x.job && eqb k.place x.layer) f.layers) l.0 keeps.layers_rise at in
      let own = eqb-true l.0.job x.job (and_both (eqb l.0.job x.job) (eqb l.0.place x.layer) (found_is (λ (k : LayerRow). eqb k.job x.job && eqb k.place x.layer) f.layers l.0 l.1)).0 in
      let apart : eqb x.job f.next_job ≡ false = ne_eqb x.job f.next_job (λ e. absurd (omega (arith, before, own, e))) in
      ap (λ (b : Bool). not (b && not (is_waiting x.state))) apart

  old_idle : (o : Option Frame) → for_any o (is_kept_frame f.layers) ≡ true → idle o ≡ true
  old_idle None kept = refl
  old_idle (Some x) kept = not_new x kept

  idle_then : list_all (λ (r : SlotRow). idle r.frame) p.slots ≡ true
  idle_then =
      ap (list_all (λ (r : SlotRow). idle r.frame)) is.slots
      ∙ all_placed idle f.slots (frames_of f.next_job 0 spec.layers)
      (list_all-from_at (λ (r : SlotRow). idle r.frame) f.slots
      (λ n s at. old_idle s.frame (and_both (leb s.version LAST_VERSION) (for_any s.frame (is_kept_frame f.layers)) (list_all-at (is_kept_slot f.layers) f.slots n s keeps.slots_kept at)).1))
      (all_of idle f.next_job 0 spec.layers (λ l q n. nothing (eqb f.next_job f.next_job)))
    where
      nothing : (b : Bool) → not (b && not true) ≡ true
      nothing true = refl
      nothing false = refl

  idle_waits : (x : Frame) → x.job ≡ f.next_job → idle (Some x) ≡ true → is_waiting x.state ≡ true
  idle_waits x new h = by (is_waiting x.state) (sym (ap (λ (b : Bool). not (b && not (is_waiting x.state))) (eq-eqb x.job f.next_job new)) ∙ h)
    where
      by : (b : Bool) → not (true && not b) ≡ true → b ≡ true
      by true k = refl
      by false k = absurd (false≢true k)

  -- a frame of the job waits to be booked
  pub own_waits : (slot : ℕ) → HoldsOf p.slots f.next_job slot → waits_at p.slots slot ≡ true
  own_waits slot h =
      let row = h.1.row in
      let test = list_all-at (λ (r : SlotRow). idle r.frame) p.slots slot row idle_then h.1.at in
      let waits = idle_waits h.0 h.2 (sym (ap idle h.1.frame_is) ∙ test) in
      ap (λ (o : Option SlotRow). for_some o (λ (s : SlotRow). for_some s.frame (λ x. is_waiting x.state))) h.1.at
      ∙ (ap (λ (o : Option Frame). for_some o (λ x. is_waiting x.state)) h.1.frame_is ∙ waits)
