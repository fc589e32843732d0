-- Where frames stand: while each slot keeps the place of its frame, jobs keep their shapes, and depends their groups.
use Rattle.std.proofs.Common.{◌≡◌, ℕ, ◌+◌, Bool, true, false, cond, List, [], ◌∷◌, map, Option, Some, None, ℤ, refl, sym, ap, subst, eqb, ◌∙◌, option_map}
use Rattle.std.specs.List.{AllZip}
use Rattle.farm_types.specs.declared.attempt.Exit.{Exit}
use Rattle.farm_types.specs.declared.attempt.ProcRow.{ProcRow}
use Rattle.farm_types.specs.declared.depend.DependRow.{DependRow}
use Rattle.farm_types.specs.declared.depend.LayerShape.{LayerShape}
use Rattle.farm_types.specs.declared.depend.Shape.{Shape}
use Rattle.farm_types.specs.declared.rows.LayerRow.{LayerRow}
use Rattle.farm_types.specs.declared.slot_row.Frame.{Frame}
use Rattle.farm_types.specs.declared.slot_row.SlotRow.{SlotRow}
use Rattle.farm_types.specs.declared.states.FrameState.{FrameState}
use Rattle.farm_types.specs.declared.states.FrameState.TheVariants as frame_state
use Rattle.farm_types.specs.declared.verdict.Verdict.{Verdict}
use Rattle.farm_types.specs.declared.verdict.Verdict.TheVariants as verdict
use Rattle.farm_types.specs.Depends.{groups_in, groups_of, layer_shape, or_first, shape_in, slot_placed, slots_placed}
use Rattle.farm_types.specs.Farm.{Farm, changed_at, for_some, is_placed, job_at, layers_of, slot_from}
use Rattle.farm_types.specs.Groups.{groups_by, part_at}
use Rattle.farm_types.specs.Lost.{lose_on, lost_row, runs_on}
use Rattle.farm_types.specs.Ranges.{range_numbers}
use Rattle.farm_types.specs.Settle.{blocked_from, blocked_row, blocks, in_state, opened_from, opens}
use Rattle.farm_types.specs.Step.{booked_row, ended_row, judged, verdict_for}
use Rattle.std.proofs.lemmas.Bool.{eqb-true}
use Rattle.farm_types.proofs.Passes.{cond_each}
use Rattle.farm_law.proofs.KeptJobsZip.{zip_changed_at, zip_map, zip_same}

-- the second row of a slot has a frame of the place of the first one's, or neither has one
abbrev pub SamePlace : SlotRow → SlotRow → Type 0
SamePlace s t = (job layer position : ℕ) → for_some t.frame (is_placed job layer position) ≡ for_some s.frame (is_placed job layer position)

-- each slot has a frame of the same place, or none
abbrev pub SameFrames : List SlotRow → List SlotRow → Type 0
SameFrames olds news = AllZip SamePlace olds news

pub place_same : (s : SlotRow) → SamePlace s s
place_same s job layer position = refl

pub frames_same : (slots : List SlotRow) → SameFrames slots slots
frames_same slots = zip_same SamePlace place_same slots

pub frames_then : (xs ys zs : List SlotRow) → SameFrames xs ys → SameFrames ys zs → SameFrames xs zs
frames_then [] [] [] first second = tt
frames_then [] [] (z ∷ zs) first second = absurd second
frames_then [] (y ∷ ys) zs first second = absurd first
frames_then (x ∷ xs) [] zs first second = absurd first
frames_then (x ∷ xs) (y ∷ ys) [] first second = absurd second
frames_then (x ∷ xs) (y ∷ ys) (z ∷ zs) first second =
    (λ job layer position. second.0 job layer position ∙ first.0 job layer position, frames_then xs ys zs first.1 second.1)

-- ---- shapes

-- Slots whose frames are found in the same places, for a job's positions.
abbrev pub SameSlots : List SlotRow → List SlotRow → ℕ → Type 0
SameSlots olds news job = (layer position : ℕ) → slot_from 0 (is_placed job layer position) news ≡ slot_from 0 (is_placed job layer position) olds

found_from : (job layer position place : ℕ) (olds news : List SlotRow) → SameFrames olds news → slot_from place (is_placed job layer position) news ≡ slot_from place (is_placed job layer position) olds
found_from job layer position place [] [] same = refl
found_from job layer position place [] (t ∷ ts) same = absurd same
found_from job layer position place (s ∷ ss) [] same = absurd same
found_from job layer position place (s ∷ ss) (t ∷ ts) same =
    ap (λ (b : Bool). cond b (Some place) (slot_from (place + 1) (is_placed job layer position) ts)) (same.0 job layer position)
    ∙ ap (cond (for_some s.frame (is_placed job layer position)) (Some place)) (found_from job layer position (place + 1) ss ts same.1)

-- frames that stay are found where they were
pub slots_found : (olds news : List SlotRow) (job : ℕ) → SameFrames olds news → SameSlots olds news job
slots_found olds news job same layer position = found_from job layer position 0 olds news same

placed_same : (olds news : List SlotRow) (job layer position : ℕ) (ns : List ℤ) → SameSlots olds news job → slots_placed news job layer position ns ≡ slots_placed olds job layer position ns
placed_same olds news job layer position [] same = refl
placed_same olds news job layer position (n ∷ ns) same =
    ap (λ (o : Option ℕ). or_first o ∷ slots_placed news job layer (position + 1) ns) (same layer position)
    ∙ ap (λ (slots : List ℕ). slot_placed olds job layer position ∷ slots) (placed_same olds news job layer (position + 1) ns same)

shape_of_layer : (olds news : List SlotRow) (l : LayerRow) → SameSlots olds news l.job → layer_shape news l ≡ layer_shape olds l
shape_of_layer olds news l same =
    ap (λ (slots : List ℕ). record { name = l.name; numbers = range_numbers l.range; slots = slots }) (placed_same olds news l.job l.place 0 (range_numbers l.range) same)

-- whose layer it is
of_job : (olds news : List SlotRow) (l : LayerRow) (job : ℕ) (b : Bool) (rest : List LayerRow) → eqb l.job job ≡ b → SameSlots olds news job → map (layer_shape news) rest ≡ map (layer_shape olds) rest
    → map (layer_shape news) (cond b (l ∷ rest) rest) ≡ map (layer_shape olds) (cond b (l ∷ rest) rest)
of_job olds news l job false rest is same later = later
of_job olds news l job true rest is same later =
    let own : SameSlots olds news l.job = subst (SameSlots olds news) (sym (eqb-true l.job job is)) same in
    ap (λ (shape : LayerShape). shape ∷ map (layer_shape news) rest) (shape_of_layer olds news l own) ∙ ap (λ (shapes : List LayerShape). layer_shape olds l ∷ shapes) later

shapes_of : (olds news : List SlotRow) (job : ℕ) (layers : List LayerRow) → SameSlots olds news job → map (layer_shape news) (layers_of layers job) ≡ map (layer_shape olds) (layers_of layers job)
shapes_of olds news job [] same = refl
shapes_of olds news job (l ∷ ls) same = of_job olds news l job (eqb l.job job) (layers_of ls job) refl same (shapes_of olds news job ls same)

-- a job whose frames are found where they were, with the layers that it had, has its shape
pub shape_found : (layers more : List LayerRow) (olds news : List SlotRow) (job : ℕ) → layers_of more job ≡ layers_of layers job → SameSlots olds news job → shape_in more news job ≡ shape_in layers olds job
shape_found layers more olds news job own same =
    ap (λ (ls : List LayerRow). record { layers = map (layer_shape news) ls }) own
    ∙ ap (λ (shapes : List LayerShape). record { layers = shapes }) (shapes_of olds news job layers same)

pub shape_same : (layers : List LayerRow) (olds news : List SlotRow) (job : ℕ) → SameFrames olds news → shape_in layers news job ≡ shape_in layers olds job
shape_same layers olds news job same = shape_found layers layers olds news job refl (slots_found olds news job same)

-- jobs that have their shapes have a depend's groups
pub groups_by_shapes : (layers more : List LayerRow) (olds news : List SlotRow) (d : DependRow) → shape_in more news d.waiter.job ≡ shape_in layers olds d.waiter.job → shape_in more news d.target.job ≡ shape_in layers olds d.target.job
    → groups_in more news d ≡ groups_in layers olds d
groups_by_shapes layers more olds news d waiters targets =
    ap (λ (shape : Shape). groups_by d.kind d.any (part_at d.waiter) (part_at d.target) shape (shape_in more news d.target.job)) waiters
    ∙ ap (λ (shape : Shape). groups_by d.kind d.any (part_at d.waiter) (part_at d.target) (shape_in layers olds d.waiter.job) shape) targets

-- a depend's groups stay
pub groups_same : (layers : List LayerRow) (olds news : List SlotRow) (d : DependRow) → SameFrames olds news → groups_in layers news d ≡ groups_in layers olds d
groups_same layers olds news d same =
    groups_by_shapes layers layers olds news d (shape_same layers olds news d.waiter.job same) (shape_same layers olds news d.target.job same)

pub groups_stay : (f g : Farm) (d : DependRow) → g.layers ≡ f.layers → SameFrames f.slots g.slots → groups_of g d ≡ groups_of f d
unfolding groups_of
groups_stay f g d layers same =
    ap (λ (ls : List LayerRow). groups_in ls g.slots d) layers ∙ groups_same f.layers f.slots g.slots d same

-- ---- changes that leave frames at their places

module _ (change : Frame → Frame) (stands : (x : Frame) (job layer position : ℕ) → is_placed job layer position (change x) ≡ is_placed job layer position x) where
  -- a changed frame
  pub frame_stays : (frame : Option Frame) (job layer position : ℕ) → for_some (option_map change frame) (is_placed job layer position) ≡ for_some frame (is_placed job layer position)
  frame_stays None job layer position = refl
  frame_stays (Some x) job layer position = stands x job layer position

-- a frame in another state
pub state_stays : (state : FrameState) (frame : Option Frame) (job layer position : ℕ) → for_some (option_map (λ (x : Frame). record x { state = state }) frame) (is_placed job layer position) ≡ for_some frame (is_placed job layer position)
state_stays state frame = frame_stays (λ (x : Frame). record x { state = state }) (λ x job layer position. refl) frame

judged_stays : (job layer position : ℕ) (x : Frame) (v : Verdict) → is_placed job layer position (judged x v) ≡ is_placed job layer position x
judged_stays job layer position x verdict.Succeeded = refl
judged_stays job layer position x (verdict.Waiting retries) = refl
judged_stays job layer position x verdict.Eaten = refl
judged_stays job layer position x verdict.Dead = refl

-- ---- rows of slots

pub lost_stays : (s : SlotRow) → SamePlace s (lost_row s)
lost_stays s = state_stays frame_state.Waiting s.frame

pub ended_stays : (f : Farm) (exit : Exit) (s : SlotRow) → SamePlace s (ended_row f exit s)
ended_stays f exit s =
    frame_stays (λ x. judged x (verdict_for exit x (job_at f x.job))) (λ x job layer position. judged_stays job layer position x (verdict_for exit x (job_at f x.job))) s.frame

pub booked_stays : (p : ProcRow) (s : SlotRow) → SamePlace s (booked_row p s)
booked_stays p s = state_stays frame_state.Running s.frame

pub opened_stays : (f : Farm) (slot : ℕ) (s : SlotRow) → SamePlace s (cond (opens f slot s) (in_state frame_state.Waiting s) s)
opened_stays f slot s = cond_each (SamePlace s) (opens f slot s) (in_state frame_state.Waiting s) s (state_stays frame_state.Waiting s.frame) (place_same s)

pub blocked_stays : (change : ℕ → ℕ) (f : Farm) (slot : ℕ) (s : SlotRow) → SamePlace s (cond (blocks f slot s) (blocked_row change s) s)
blocked_stays change f slot s = cond_each (SamePlace s) (blocks f slot s) (blocked_row change s) s (state_stays frame_state.Depend s.frame) (place_same s)

-- ---- lists of slots

pub lose_frames : (test : ℕ → Bool) (slots : List SlotRow) → SameFrames slots (lose_on test slots)
lose_frames test slots =
    zip_map SamePlace (λ (s : SlotRow). cond (runs_on test s) (lost_row s) s)
    (λ s. cond_each (SamePlace s) (runs_on test s) (lost_row s) s (lost_stays s) (place_same s)) slots

-- a change of one slot that leaves its frame at its place
pub changed_frames : (change : SlotRow → SlotRow) → ((s : SlotRow) → SamePlace s (change s)) → (slots : List SlotRow) (slot : ℕ) → SameFrames slots (changed_at slots slot change)
changed_frames change stays slots slot = zip_changed_at SamePlace place_same change slots slot (λ s at. stays s)

pub ended_frames : (f : Farm) (exit : Exit) (slots : List SlotRow) (slot : ℕ) → SameFrames slots (changed_at slots slot (ended_row f exit))
ended_frames f exit slots slot = changed_frames (ended_row f exit) (ended_stays f exit) slots slot

pub booked_frames : (p : ProcRow) (slots : List SlotRow) (slot : ℕ) → SameFrames slots (changed_at slots slot (booked_row p))
booked_frames p slots slot = changed_frames (booked_row p) (booked_stays p) slots slot

pub opened_frames : (f : Farm) (slot : ℕ) (slots : List SlotRow) → SameFrames slots (opened_from f slot slots)
opened_frames f slot [] = tt
opened_frames f slot (s ∷ ss) = (opened_stays f slot s, opened_frames f (slot + 1) ss)

pub blocked_frames : (change : ℕ → ℕ) (f : Farm) (slot : ℕ) (slots : List SlotRow) → SameFrames slots (blocked_from change f slot slots)
blocked_frames change f slot [] = tt
blocked_frames change f slot (s ∷ ss) = (blocked_stays change f slot s, blocked_frames change f (slot + 1) ss)
