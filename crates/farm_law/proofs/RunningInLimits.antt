-- How many frames run in a limit: as attempts begin and end, as a job comes, and as one goes.
--
-- A slot weighs 1 in a limit where it has a live attempt and the layer of its frame has the limit.
use Rattle.std.proofs.Common.{◌≡◌, ◌≤◌, ℕ, suc, ◌+◌, Bool, true, false, cond, not, ◌&&◌, eqb, leb, List, [], ◌∷◌, ◌++◌, map, length, Option, Some, None, refl, sym, ap, ◌∙◌, arith, option_map}
use Rattle.std.specs.Prelude.{is_none, is_some}
use Rattle.std.specs.List.{AllZip, filter, list_all, list_any, slice_get, sum_by}
use Rattle.std.proofs.lemmas.Bool.{eqb-true, false≢true, not_from_false, true≢false}
use Rattle.std.proofs.lemmas.List.Sums.{sum_by-cons}
use Rattle.farm_types.specs.declared.attempt.ProcRow.{ProcRow}
use Rattle.farm_types.specs.declared.job.JobSpec.{JobSpec}
use Rattle.farm_types.specs.declared.limits.TheConstants.{LAST_VERSION, MOST_RUNNING, SLOT_LIMIT}
use Rattle.farm_types.specs.declared.rows.LayerRow.{LayerRow}
use Rattle.farm_types.specs.declared.slot_row.Frame.{Frame}
use Rattle.farm_types.specs.declared.slot_row.SlotRow.{SlotRow}
use Rattle.farm_types.specs.declared.states.FrameState.{FrameState}
use Rattle.farm_types.specs.declared.states.FrameState.TheVariants.{Waiting, Setup, Running, Succeeded, Depend, Dead, Eaten}
use Rattle.farm_types.specs.Depends.{is_done_state}
use Rattle.farm_types.specs.Farm.{changed_at, for_any, for_some, layer_in}
use Rattle.farm_types.specs.Finish.{freed_row, is_frame_of, with_finished}
use Rattle.farm_types.specs.Jobs.{JobLists, fresh_slot, frames_of, is_free, layer_rows, place_frames, slot_with, with_job}
use Rattle.farm_types.specs.Kept.{is_kept_frame, is_kept_slot}
use Rattle.farm_types.specs.Lost.{lose_on, lost_row, runs_on}
use Rattle.farm_types.specs.Operators.{is_left_of}
use Rattle.farm_types.specs.Run.{HasItsAttempt, IsAttemptOf}
use Rattle.farm_types.specs.Settle.{raised}
use Rattle.farm_types.specs.Step.{booked_row}
use Rattle.farm_types.specs.Sums.{has_limit, running_among, runs_under}
use Rattle.farm_types.proofs.Changed.{changed_at_sum}
use Rattle.farm_types.proofs.Lists.{and_both, for_some_true, list_all-at}
use Rattle.farm_law.proofs.Filtered.{find_kept}
use Rattle.farm_law.proofs.KeptJobsCounts.{weight_within}
use Rattle.farm_law.proofs.KeptJobsLists.{any_fails, found_more}
use Rattle.farm_law.proofs.KeptJobsRows.{frame_kept}
use Rattle.farm_law.proofs.KeptJobsZip.{sum_alike, zip_sum}
use Rattle.farm_law.proofs.Placed.{free_none}

-- ---- one slot

-- whether the layer of the frame has the limit
abbrev pub names_limit : List LayerRow → ℕ → Option Frame → Bool
names_limit layers limit frame = for_some frame (λ (x : Frame). for_some (layer_in layers x.job x.layer) (has_limit limit))

-- 1 where it has
abbrev pub frame_weight : List LayerRow → ℕ → Option Frame → ℕ
frame_weight layers limit frame = cond (names_limit layers limit frame) 1 0

abbrev pub layer_weight : ℕ → Option LayerRow → ℕ
layer_weight limit layer = cond (for_some layer (has_limit limit)) 1 0

-- 1 where there is an attempt too
abbrev pub attempt_weight : List LayerRow → ℕ → Option Frame → Option ProcRow → ℕ
attempt_weight layers limit frame proc = cond (is_some proc && names_limit layers limit frame) 1 0

abbrev pub slot_weight : List LayerRow → ℕ → SlotRow → ℕ
slot_weight layers limit s = cond (runs_under layers limit s) 1 0

-- slots without a frame have no attempt
abbrev pub FreeHaveNone : List SlotRow → Type 0
FreeHaveNone slots = (i : ℕ) (s : SlotRow) → slice_get slots i ≡ Some s → is_none s.frame ≡ true → s.proc ≡ None

-- nor have those of a job's frames
abbrev pub OwnHaveNone : ℕ → List SlotRow → Type 0
OwnHaveNone job slots = (i : ℕ) (s : SlotRow) → slice_get slots i ≡ Some s → is_frame_of job s ≡ true → s.proc ≡ None

module _ (layers : List LayerRow) (limit : ℕ) where
  -- without an attempt it weighs nothing
  pub none_weighs : (s : SlotRow) → s.proc ≡ None → slot_weight layers limit s ≡ 0
  none_weighs s none = ap (attempt_weight layers limit s.frame) none

  -- with one it weighs what its frame does
  pub live_weighs : (s : SlotRow) (p : ProcRow) → s.proc ≡ Some p → slot_weight layers limit s ≡ frame_weight layers limit s.frame
  live_weighs s p live = ap (attempt_weight layers limit s.frame) live

  -- a frame weighs what its layer does
  pub frame_weighs : (frame : Option Frame) (x : Frame) (o : Option LayerRow) → frame ≡ Some x → layer_in layers x.job x.layer ≡ o → frame_weight layers limit frame ≡ layer_weight limit o
  frame_weighs frame x o is found = ap (frame_weight layers limit) is ∙ ap (layer_weight limit) found

  -- a frame that changes and stays in its layer weighs the same
  pub kept_names : (change : Frame → Frame) → ((x : Frame) → (change x).job ≡ x.job) → ((x : Frame) → (change x).layer ≡ x.layer) → (frame : Option Frame) → names_limit layers limit (option_map change frame) ≡ names_limit layers limit frame
  kept_names change job layer None = refl
  kept_names change job layer (Some x) = λ i. for_some (layer_in layers (job x i) (layer x i)) (has_limit limit)

  pub state_names : (state : FrameState) (frame : Option Frame) → names_limit layers limit (option_map (λ (x : Frame). record x { state = state }) frame) ≡ names_limit layers limit frame
  state_names state frame = kept_names (λ (x : Frame). record x { state = state }) (λ x. refl) (λ x. refl) frame

  at_most_one : (b : Bool) → cond b 1 0 ≤ 1
  at_most_one true = omega arith
  at_most_one false = omega arith

  -- ---- all slots

  -- no more run than there are slots
  pub running_few : (slots : List SlotRow) → running_among layers limit slots ≤ length slots
  running_few [] = omega arith
  running_few (s ∷ ss) = omega (arith, sum_by-cons (slot_weight layers limit) s ss, at_most_one (runs_under layers limit s), running_few ss)

  -- so no more than a limit may let run
  pub running_within : (slots : List SlotRow) → length slots ≤ SLOT_LIMIT → running_among layers limit slots ≤ MOST_RUNNING
  running_within slots few = omega (arith, running_few slots, few)

  -- a live attempt counts in the limit of its frame's layer
  pub running_has : (slots : List SlotRow) (slot : ℕ) (s : SlotRow) (p : ProcRow) → slice_get slots slot ≡ Some s → s.proc ≡ Some p → names_limit layers limit s.frame ≡ true → 1 ≤ running_among layers limit slots
  running_has slots slot s p at live names =
      let here : frame_weight layers limit s.frame ≡ 1 = ap (λ (b : Bool). cond b 1 0) names in
      omega (arith, weight_within (slot_weight layers limit) slots slot s at, live_weighs s p live, here)

  -- where each slot weighs what it did
  pub running_alike : (olds news : List SlotRow) → AllZip (λ (s t : SlotRow). slot_weight layers limit t ≡ slot_weight layers limit s) olds news → running_among layers limit news ≡ running_among layers limit olds
  running_alike olds news zip = zip_sum (λ (s t : SlotRow). slot_weight layers limit t ≡ slot_weight layers limit s) (slot_weight layers limit) (λ s t same. same) olds news zip

  -- ---- attempts begin and end

  -- one slot changes
  pub running_changed : (slots : List SlotRow) (slot : ℕ) (change : SlotRow → SlotRow) (s : SlotRow) → slice_get slots slot ≡ Some s
      → running_among layers limit (changed_at slots slot change) + slot_weight layers limit s ≡ running_among layers limit slots + slot_weight layers limit (change s)
  running_changed slots slot change s at = changed_at_sum (slot_weight layers limit) slots slot change s at

  -- an attempt begins: it counts in the limit of its frame's layer
  pub running_begun : (slots : List SlotRow) (slot : ℕ) (change : SlotRow → SlotRow) (s : SlotRow) (p : ProcRow) → slice_get slots slot ≡ Some s → s.proc ≡ None → (change s).proc ≡ Some p
      → running_among layers limit (changed_at slots slot change) ≡ running_among layers limit slots + frame_weight layers limit (change s).frame
  running_begun slots slot change s p at none live = omega (arith, running_changed slots slot change s at, none_weighs s none, live_weighs (change s) p live)

  pub running_booked : (slots : List SlotRow) (slot : ℕ) (p : ProcRow) (s : SlotRow) → slice_get slots slot ≡ Some s → s.proc ≡ None
      → running_among layers limit (changed_at slots slot (booked_row p)) ≡ running_among layers limit slots + frame_weight layers limit s.frame
  running_booked slots slot p s at none =
      let same : frame_weight layers limit (booked_row p s).frame ≡ frame_weight layers limit s.frame = ap (λ (b : Bool). cond b 1 0) (state_names Running s.frame) in
      omega (arith, running_begun slots slot (booked_row p) s p at none refl, same)

  -- one ends, or is lost
  pub running_ended : (slots : List SlotRow) (slot : ℕ) (change : SlotRow → SlotRow) (s : SlotRow) (p : ProcRow) → slice_get slots slot ≡ Some s → s.proc ≡ Some p → (change s).proc ≡ None
      → running_among layers limit (changed_at slots slot change) + frame_weight layers limit s.frame ≡ running_among layers limit slots
  running_ended slots slot change s p at live none = omega (arith, running_changed slots slot change s at, live_weighs s p live, none_weighs (change s) none)

  -- a slot without one changes, and has none
  pub running_idle : (slots : List SlotRow) (slot : ℕ) (change : SlotRow → SlotRow) (s : SlotRow) → slice_get slots slot ≡ Some s → s.proc ≡ None → (change s).proc ≡ None
      → running_among layers limit (changed_at slots slot change) ≡ running_among layers limit slots
  running_idle slots slot change s at none still = omega (arith, running_changed slots slot change s at, none_weighs s none, none_weighs (change s) still)

  -- what the slots of lost attempts weigh
  abbrev pub lost_weight : (ℕ → Bool) → SlotRow → ℕ
  lost_weight test s = cond (runs_on test s) (frame_weight layers limit s.frame) 0

  lost_step : (test : ℕ → Bool) (s : SlotRow) (o : Option ProcRow) → s.proc ≡ o → (b : Bool) → for_some o (λ (p : ProcRow). test p.host) ≡ b
      → slot_weight layers limit (cond b (lost_row s) s) + cond b (frame_weight layers limit s.frame) 0 ≡ slot_weight layers limit s
  lost_step test s None is true lost = absurd (false≢true lost)
  lost_step test s (Some p) is true lost = omega (arith, none_weighs (lost_row s) refl, live_weighs s p is)
  lost_step test s o is false lost = omega arith

  -- attempts on hosts that pass a test are lost
  pub running_lost : (test : ℕ → Bool) (slots : List SlotRow) → running_among layers limit (lose_on test slots) + sum_by (lost_weight test) slots ≡ running_among layers limit slots
  running_lost test [] = refl
  running_lost test (s ∷ ss) =
      omega (
        arith,
        sum_by-cons (slot_weight layers limit) (cond (runs_on test s) (lost_row s) s) (lose_on test ss),
        sum_by-cons (lost_weight test) s ss,
        sum_by-cons (slot_weight layers limit) s ss,
        lost_step test s s.proc refl (runs_on test s) refl,
        running_lost test ss,
      )

  -- ---- frames are placed

  fresh_none : (xs : List Frame) → running_among layers limit (map fresh_slot xs) ≡ 0
  fresh_none [] = refl
  fresh_none (x ∷ xs) = omega (arith, sum_by-cons (slot_weight layers limit) (fresh_slot x) (map fresh_slot xs), none_weighs (fresh_slot x) refl, fresh_none xs)

  placed_step : (y : SlotRow) (ys : List SlotRow) (x : Frame) (xs : List Frame) (b : Bool) → is_free y ≡ b → (is_none y.frame ≡ true → y.proc ≡ None)
      → running_among layers limit (place_frames ys xs) ≡ running_among layers limit ys → running_among layers limit (place_frames ys (x ∷ xs)) ≡ running_among layers limit ys
      → running_among layers limit (cond b (slot_with x y ∷ place_frames ys xs) (y ∷ place_frames ys (x ∷ xs))) ≡ running_among layers limit (y ∷ ys)
  placed_step y ys x xs true free has used kept =
      let none = has (free_none y free) in
      omega (
        arith,
        sum_by-cons (slot_weight layers limit) (slot_with x y) (place_frames ys xs),
        sum_by-cons (slot_weight layers limit) y ys,
        none_weighs (slot_with x y) none,
        none_weighs y none,
        used,
      )
  placed_step y ys x xs false free has used kept =
      omega (arith, sum_by-cons (slot_weight layers limit) y (place_frames ys (x ∷ xs)), sum_by-cons (slot_weight layers limit) y ys, kept)

  -- frames that are placed don't run
  pub running_placed : (slots : List SlotRow) (xs : List Frame) → FreeHaveNone slots → running_among layers limit (place_frames slots xs) ≡ running_among layers limit slots
  running_placed [] xs none = fresh_none xs
  running_placed (y ∷ ys) [] none = refl
  running_placed (y ∷ ys) (x ∷ xs) none =
      placed_step y ys x xs (is_free y) refl (none 0 y refl) (running_placed ys xs (λ i s at. none (suc i) s at)) (running_placed ys (x ∷ xs) (λ i s at. none (suc i) s at))

-- ---- layers come

module _ (layers more : List LayerRow) (limit : ℕ) where
  -- the layer of a frame that is kept is found before those that come
  more_names : (frame : Option Frame) → for_any frame (is_kept_frame layers) ≡ true → names_limit (layers ++ more) limit frame ≡ names_limit layers limit frame
  more_names None kept = refl
  more_names (Some x) kept =
      let test = λ (l : LayerRow). eqb l.job x.job && eqb l.place x.layer in
      let found = for_some_true (layer_in layers x.job x.layer) _ (frame_kept layers x kept).number in
      ap (λ (o : Option LayerRow). for_some o (has_limit limit)) (found_more test layers more found.0 found.1 ∙ sym found.1)

  pub running_more_layers : (slots : List SlotRow) → list_all (is_kept_slot layers) slots ≡ true → running_among (layers ++ more) limit slots ≡ running_among layers limit slots
  running_more_layers slots kept =
      sum_alike (slot_weight (layers ++ more) limit) (slot_weight layers limit) slots
      (λ i s at.
      let both = and_both (leb s.version LAST_VERSION) (for_any s.frame (is_kept_frame layers)) (list_all-at (is_kept_slot layers) slots i s kept at) in
      ap (λ (b : Bool). cond (is_some s.proc && b) 1 0) (more_names s.frame both.1))

-- a job comes: its layers are new, and its frames have no attempt
pub running_submitted : (b : JobLists) (show : ℕ) (limits : List (Option ℕ)) (spec : JobSpec) (limit : ℕ) → list_all (is_kept_slot b.layers) b.slots ≡ true → FreeHaveNone b.slots
    → running_among (with_job b show limits spec).layers limit (with_job b show limits spec).slots ≡ running_among b.layers limit b.slots
running_submitted b show limits spec limit kept none =
    let rows = layer_rows b.next_job limits 0 spec.layers in
    running_placed (b.layers ++ rows) limit b.slots (frames_of b.next_job 0 spec.layers) none ∙ running_more_layers b.layers rows limit b.slots kept

-- ---- a job goes

module _ (job : ℕ) (layers : List LayerRow) (limit : ℕ) where
  abbrev pub other_layers : List LayerRow
  other_layers = filter (λ (l : LayerRow). not (eqb l.job job)) layers

  other_kept : (n place : ℕ) → eqb n job ≡ false → (l : LayerRow) → (eqb l.job n && eqb l.place place) ≡ true → not (eqb l.job job) ≡ true
  other_kept n place other l is =
      let same = eqb-true l.job n (and_both (eqb l.job n) (eqb l.place place) is).0 in
      not_from_false (eqb l.job job) (ap (λ (m : ℕ). eqb m job) same ∙ other)

  -- the layer of another job's frame is found as before
  pub other_found : (n place : ℕ) → eqb n job ≡ false → layer_in other_layers n place ≡ layer_in layers n place
  other_found n place other = find_kept (λ (l : LayerRow). eqb l.job n && eqb l.place place) (λ (l : LayerRow). not (eqb l.job job)) (other_kept n place other) layers

  other_names : (frame : Option Frame) → for_some frame (λ (x : Frame). eqb x.job job) ≡ false → names_limit other_layers limit frame ≡ names_limit layers limit frame
  other_names None other = refl
  other_names (Some x) other = ap (λ (o : Option LayerRow). for_some o (has_limit limit)) (other_found x.job x.layer other)

  freed_step : (s : SlotRow) (b : Bool) → is_frame_of job s ≡ b → (b ≡ true → s.proc ≡ None)
      → slot_weight other_layers limit (cond b (record { version = raised s.version; frame = None; proc = None }) s) ≡ slot_weight layers limit s
  freed_step s true is none = sym (none_weighs layers limit s (none refl))
  freed_step s false is none = ap (λ (b : Bool). cond (is_some s.proc && b) 1 0) (other_names s.frame is)

  -- the slots of a job that goes are freed
  pub running_freed : (slots : List SlotRow) → OwnHaveNone job slots → running_among other_layers limit (map (freed_row job) slots) ≡ running_among layers limit slots
  running_freed [] none = refl
  running_freed (s ∷ ss) none =
      omega (
        arith,
        sum_by-cons (slot_weight other_layers limit) (freed_row job s) (map (freed_row job) ss),
        sum_by-cons (slot_weight layers limit) s ss,
        freed_step s (is_frame_of job s) refl (none 0 s refl),
        running_freed ss (λ i r at. none (suc i) r at),
      )

-- ---- which slots have no attempt

done_none : (place version : ℕ) (state : FrameState) (proc : Option ProcRow) → not (is_done_state state) ≡ false → IsAttemptOf place version state proc → proc ≡ None
done_none place version state None done has = refl
done_none place version Waiting (Some p) done has = absurd has
done_none place version Setup (Some p) done has = absurd has
done_none place version Running (Some p) done has = absurd (true≢false done)
done_none place version Succeeded (Some p) done has = absurd has
done_none place version Depend (Some p) done has = absurd has
done_none place version Dead (Some p) done has = absurd has
done_none place version Eaten (Some p) done has = absurd has

own_done : (own done : Bool) → own ≡ true → (own && done) ≡ false → done ≡ false
own_done true done is none = none
own_done false done is none = absurd (false≢true is)

own_none : (job place version : ℕ) (frame : Option Frame) (proc : Option ProcRow) → for_some frame (λ (x : Frame). eqb x.job job) ≡ true → for_some frame (λ (x : Frame). eqb x.job job && not (is_done_state x.state)) ≡ false
    → HasItsAttempt place version frame proc → proc ≡ None
own_none job place version None proc own none has = absurd (false≢true own)
own_none job place version (Some x) proc own none has = done_none place version x.state proc (own_done (eqb x.job job) (not (is_done_state x.state)) own none) has

unframed_none : (place version : ℕ) (frame : Option Frame) (proc : Option ProcRow) → is_none frame ≡ true → HasItsAttempt place version frame proc → proc ≡ None
unframed_none place version None None free has = refl
unframed_none place version None (Some p) free has = absurd has
unframed_none place version (Some x) proc free has = absurd (false≢true free)

module _ (slots : List SlotRow) (attempts : (i : ℕ) (s : SlotRow) → slice_get slots i ≡ Some s → HasItsAttempt i s.version s.frame s.proc) where
  -- where exactly the running frames have attempts, those without a frame have none
  pub free_have_none : FreeHaveNone slots
  free_have_none i s at free = unframed_none i s.version s.frame s.proc free (attempts i s at)

  -- nor those of a job of which no frame is left
  pub own_have_none : (job : ℕ) → list_any (is_left_of job) slots ≡ false → OwnHaveNone job slots
  own_have_none job none i s at own = own_none job i s.version s.frame s.proc own (any_fails (is_left_of job) slots i s none at) (attempts i s at)

-- a job finishes of which no frame is left
pub running_finished : (job : ℕ) (b : JobLists) (limit : ℕ) → ((i : ℕ) (s : SlotRow) → slice_get b.slots i ≡ Some s → HasItsAttempt i s.version s.frame s.proc) → list_any (is_left_of job) b.slots ≡ false
    → running_among (with_finished job b).layers limit (with_finished job b).slots ≡ running_among b.layers limit b.slots
running_finished job b limit attempts none = running_freed job b.layers limit b.slots (own_have_none b.slots attempts job none)
