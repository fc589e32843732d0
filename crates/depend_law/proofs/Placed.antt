-- The slots of a job's shape: each holds its frame, and none stands twice.
use Rattle.std.proofs.Common.{◌≡◌, ℕ, suc, ◌+◌, ◌<◌, ◌≤◌, true, false, eqb, leb, List, [], ◌∷◌, map, length, Option, Some, None, ℤ, refl, sym, ap, subst, ◌∙◌, arith, length-append}
use Rattle.std.specs.Prelude.{nat_eq}
use Rattle.std.specs.List.{AllByRecursion, IsDistinct, find, position_or_len, slice_get}
use Rattle.std.specs.Option.{is_some}
use Rattle.std.proofs.lemmas.Bool.{eqb-true, false≢true, leb-true, ne_eqb}
use Rattle.std.proofs.lemmas.List.Folds.{find_at}
use Rattle.std.proofs.lemmas.List.Sums.{sum_by-cons}
use Rattle.std.proofs.lemmas.Option.{same_Some}
use Rattle.farm_types.specs.declared.rows.JobRow.{JobRow}
use Rattle.farm_types.specs.declared.rows.LayerRow.{LayerRow}
use Rattle.farm_types.specs.declared.slot_row.Frame.{Frame}
use Rattle.farm_types.specs.declared.slot_row.SlotRow.{SlotRow}
use Rattle.farm_types.specs.declared.limits.TheConstants.{MOST_FRAMES}
use Rattle.farm_types.specs.Depends.{layer_shape, or_first, shape_in, slot_placed, slots_placed}
use Rattle.farm_types.specs.Farm.{is_placed, layers_of, slot_from}
use Rattle.farm_types.specs.Groups.{all_slots}
use Rattle.farm_types.specs.Kept.{AreAtPlaces, EachThere, HasItsLayers, KeepsJobs, frames_said, is_formed_job, is_of_pending, is_pending_job}
use Rattle.farm_types.specs.Jobs.{JobLists}
use Rattle.farm_types.specs.Ranges.{range_numbers}
use Rattle.farm_types.proofs.Lists.{and_both, find_passes, for_some_true, found_is}
use Rattle.farm_law.proofs.FoundSlots.{found_slot}
use Rattle.farm_law.proofs.KeptJobsCounts.{StandsAt, stands_at}
use Rattle.farm_law.proofs.KeptJobsFormed.{job_formed}
use Rattle.depend_law.proofs.Among.{In, differ_append, each_append, each_at, each_weaker, kept_from}

-- ---- slots that hold frames

-- the slot has the frame
pub record Holds (slots : List SlotRow) (slot : ℕ) (x : Frame) : Type 0 where
  pub row : SlotRow
  pub at : slice_get slots slot ≡ Some row
  pub frame_is : row.frame ≡ Some x

-- no other one
pub holds_one : (slots : List SlotRow) (slot : ℕ) (x y : Frame) → Holds slots slot x → Holds slots slot y → x ≡ y
holds_one slots slot x y a b =
    let same : a.row ≡ b.row = same_Some a.row b.row (sym a.at ∙ b.at) in
    same_Some x y (sym a.frame_is ∙ (ap (λ (s : SlotRow). s.frame) same ∙ b.frame_is))

-- it has a frame of the job
abbrev pub HoldsOf : List SlotRow → ℕ → ℕ → Type 0
HoldsOf slots job slot = (x : Frame) × Holds slots slot x × (x.job ≡ job)

-- of a layer of the job from that place on
abbrev HoldsFrom : List SlotRow → ℕ → ℕ → ℕ → Type 0
HoldsFrom slots job low slot = (x : Frame) × Holds slots slot x × (x.job ≡ job) × (low ≤ x.layer)

-- of one layer, at that position or past it
abbrev pub HoldsPast : List SlotRow → ℕ → ℕ → ℕ → ℕ → Type 0
HoldsPast slots job layer low slot = (x : Frame) × Holds slots slot x × (x.job ≡ job) × (x.layer ≡ layer) × (low ≤ x.position)

-- ---- the slot of one position

-- the frame of that position
abbrev pub HoldsAt : List SlotRow → ℕ → ℕ → ℕ → ℕ → Type 0
HoldsAt slots job layer position slot = (x : Frame) × Holds slots slot x × StandsAt job layer position x

placed_holds : (slots : List SlotRow) (job layer position : ℕ) (o : Option ℕ) → slot_from 0 (is_placed job layer position) slots ≡ o → is_some o ≡ true → HoldsAt slots job layer position (or_first o)
placed_holds slots job layer position None is some = absurd (false≢true some)
placed_holds slots job layer position (Some slot) is some =
    let found = found_slot (is_placed job layer position) slots slot is in
    (found.frame, record { row = found.row; at = found.at; frame_is = found.is }, stands_at job layer position found.frame found.passes)

-- where a slot is found, it is the one that is placed
pub placed_found : (slots : List SlotRow) (job layer position : ℕ) → is_some (slot_from 0 (is_placed job layer position) slots) ≡ true
    → slot_from 0 (is_placed job layer position) slots ≡ Some (slot_placed slots job layer position)
placed_found slots job layer position there = by_case (slot_from 0 (is_placed job layer position) slots) there
  where
    by_case : (o : Option ℕ) → is_some o ≡ true → o ≡ Some (or_first o)
    by_case None there = absurd (false≢true there)
    by_case (Some slot) there = refl

-- ---- the slots of a layer

module _ (layers : List LayerRow) (slots : List SlotRow) (there : EachThere layers slots) where
  module _ (n : ℕ) (l : LayerRow) (at : slice_get layers n ≡ Some l) where
    pub at_position : (position : ℕ) → position < length (range_numbers l.range) → HoldsAt slots l.job l.place position (slot_placed slots l.job l.place position)
    at_position position within =
        placed_holds slots l.job l.place position (slot_from 0 (is_placed l.job l.place position) slots) refl (there n l at position within)

    -- each holds a frame of the layer, from that position on
    pub layer_holds : (position : ℕ) (ns : List ℤ) → position + length ns ≤ length (range_numbers l.range) → AllByRecursion (HoldsPast slots l.job l.place position) (slots_placed slots l.job l.place position ns)
    layer_holds position [] few = tt
    layer_holds position (n ∷ ns) few =
        let x = at_position position (omega arith) in (
          (x.0, x.1, x.2.job_is, x.2.layer_is, omega (arith, x.2.position_is)),
          each_weaker (HoldsPast slots l.job l.place (position + 1)) (HoldsPast slots l.job l.place position) (λ w h. (h.0, h.1, h.2, h.3, omega (arith, h.4)))
              (slots_placed slots l.job l.place (position + 1) ns) (layer_holds (position + 1) ns (omega arith)),
        )

    -- none stands twice
    pub layer_differs : (position : ℕ) (ns : List ℤ) → position + length ns ≤ length (range_numbers l.range) → IsDistinct nat_eq (slots_placed slots l.job l.place position ns)
    unfolding IsDistinct
    layer_differs position [] few = tt
    layer_differs position (n ∷ ns) few = (
      each_weaker (HoldsPast slots l.job l.place (position + 1)) (λ w. nat_eq (slot_placed slots l.job l.place position) w ≡ false) (λ w h. apart w h)
          (slots_placed slots l.job l.place (position + 1) ns) (layer_holds (position + 1) ns (omega arith)),
      layer_differs (position + 1) ns (omega arith),
    )
      where
        apart : (w : ℕ) → HoldsPast slots l.job l.place (position + 1) w → nat_eq (slot_placed slots l.job l.place position) w ≡ false
        apart w h =
            let x = at_position position (omega arith) in
            ne_eqb (slot_placed slots l.job l.place position) w
            (λ e.
            let same = holds_one slots w x.0 h.0 (subst (λ (k : ℕ). Holds slots k x.0) e x.1) h.1 in
            let at_one : x.0.position ≡ h.0.position = ap (λ (y : Frame). y.position) same in
            absurd (omega (arith, at_one, h.4, x.2.position_is)))

  -- ---- the slots of a job

  -- the layers are those of the job, and stand in the list
  abbrev AreOf : ℕ → List LayerRow → Type 0
  AreOf job ls = (n : ℕ) (l : LayerRow) → slice_get ls n ≡ Some l → In layers l × (l.job ≡ job)

  own_holds : (job place : ℕ) (l : LayerRow) → In layers l → l.job ≡ job → l.place ≡ place → AllByRecursion (λ w. HoldsFrom slots job place w × ((x : Frame) → Holds slots w x → x.layer ≡ place)) (layer_shape slots l).slots
  own_holds job place l at of_job at_place =
      each_weaker (HoldsPast slots l.job l.place 0) (λ w. HoldsFrom slots job place w × ((x : Frame) → Holds slots w x → x.layer ≡ place))
      (λ w h. (
        (h.0, h.1, h.2 ∙ of_job, omega (arith, h.3, at_place)),
        λ x holds. ap (λ (y : Frame). y.layer) (holds_one slots w x h.0 holds h.1) ∙ (h.3 ∙ at_place),
      ))
      (layer_shape slots l).slots (layer_holds at.0 l at.1 0 (range_numbers l.range) (omega arith))

  -- each holds a frame of the job, of a layer from that place on
  job_holds : (job place : ℕ) (ls : List LayerRow) → AreOf job ls → AreAtPlaces place ls → AllByRecursion (HoldsFrom slots job place) (all_slots (map (layer_shape slots) ls))
  job_holds job place [] own at = tt
  job_holds job place (l ∷ ls) own at =
      let here = own 0 l refl in
      each_append (HoldsFrom slots job place) (layer_shape slots l).slots (all_slots (map (layer_shape slots) ls))
      (each_weaker (λ w. HoldsFrom slots job place w × ((x : Frame) → Holds slots w x → x.layer ≡ place)) (HoldsFrom slots job place) (λ w h. h.0)
      (layer_shape slots l).slots (own_holds job place l here.0 here.1 at.0))
      (each_weaker (HoldsFrom slots job (place + 1)) (HoldsFrom slots job place) (λ w h. (h.0, h.1, h.2, omega (arith, h.3)))
      (all_slots (map (layer_shape slots) ls)) (job_holds job (place + 1) ls (λ n k here. own (suc n) k here) at.1))

  -- none stands twice
  job_differs : (job place : ℕ) (ls : List LayerRow) → AreOf job ls → AreAtPlaces place ls → IsDistinct nat_eq (all_slots (map (layer_shape slots) ls))
  unfolding IsDistinct
  job_differs job place [] own at = tt
  job_differs job place (l ∷ ls) own at =
      let here = own 0 l refl in
      let rest = job_holds job (place + 1) ls (λ n k at. own (suc n) k at) at.1 in
      differ_append nat_eq (layer_shape slots l).slots (all_slots (map (layer_shape slots) ls))
      (layer_differs here.0.0 l here.0.1 0 (range_numbers l.range) (omega arith))
      (job_differs job (place + 1) ls (λ n k at. own (suc n) k at) at.1)
      (each_weaker (λ w. HoldsFrom slots job place w × ((x : Frame) → Holds slots w x → x.layer ≡ place)) (λ w. AllByRecursion (λ v. nat_eq w v ≡ false) (all_slots (map (layer_shape slots) ls)))
      (λ w h. each_weaker (HoldsFrom slots job (place + 1)) (λ v. nat_eq w v ≡ false) (λ v past. apart w v h past) (all_slots (map (layer_shape slots) ls)) rest)
      (layer_shape slots l).slots (own_holds job place l here.0 here.1 at.0))
    where
      apart : (w v : ℕ) → HoldsFrom slots job place w × ((x : Frame) → Holds slots w x → x.layer ≡ place) → HoldsFrom slots job (place + 1) v → nat_eq w v ≡ false
      apart w v h past =
          ne_eqb w v
          (λ e.
          let layer_is : past.0.layer ≡ place = h.1 past.0 (subst (λ (k : ℕ). Holds slots k past.0) (sym e) past.1) in
          absurd (omega (arith, layer_is, past.3)))

  length-slots_placed : (job layer position : ℕ) (ns : List ℤ) → length (slots_placed slots job layer position ns) ≡ length ns
  length-slots_placed job layer position [] = refl
  length-slots_placed job layer position (n ∷ ns) = ap suc (length-slots_placed job layer (position + 1) ns)

  -- as many as the layers' ranges say
  job_count : (ls : List LayerRow) → length (all_slots (map (layer_shape slots) ls)) ≡ frames_said ls
  job_count [] = refl
  job_count (l ∷ ls) =
      omega (
        arith,
        length-append (layer_shape slots l).slots (all_slots (map (layer_shape slots) ls)),
        length-slots_placed l.job l.place 0 (range_numbers l.range),
        sum_by-cons (λ (r : LayerRow). length (range_numbers r.range)) l ls,
        job_count ls,
      )

-- ---- the shape of a pending job

-- Each slot of a job's shape holds a frame of the job, and none stands twice. There is one, and there are at most as many as a job has frames.
pub record ShapeHolds (layers : List LayerRow) (slots : List SlotRow) (job : ℕ) : Type 0 where
  pub each : (k slot : ℕ) → slice_get (all_slots (shape_in layers slots job).layers) k ≡ Some slot → HoldsOf slots job slot
  pub differ : IsDistinct nat_eq (all_slots (shape_in layers slots job).layers)
  pub least : 1 ≤ length (all_slots (shape_in layers slots job).layers)
  pub most : length (all_slots (shape_in layers slots job).layers) ≤ MOST_FRAMES

module _ (b : JobLists) (shows : ℕ) (kept : KeepsJobs b shows) where
  of_its : (job : ℕ) (j : JobRow) → j.job ≡ job → is_formed_job shows j ≡ true → HasItsLayers b.layers j → ShapeHolds b.layers b.slots job
  of_its job j is formed its =
      let places = subst (λ (k : ℕ). AreAtPlaces 0 (layers_of b.layers k)) is its.places in
      let said : frames_said (layers_of b.layers job) ≡ j.frames = subst (λ (k : ℕ). frames_said (layers_of b.layers k) ≡ j.frames) is its.frames in
      let within = and_both (leb 1 j.frames) (leb j.frames MOST_FRAMES) (job_formed shows j formed).frames in
      record {
        each = λ k slot at.
            let h = each_at (HoldsFrom b.slots job 0) (all_slots (shape_in b.layers b.slots job).layers) k slot (job_holds b.layers b.slots kept.frames_there job 0 (layers_of b.layers job) own places) at in
            (h.0, h.1, h.2);
        differ = job_differs b.layers b.slots kept.frames_there job 0 (layers_of b.layers job) own places;
        least = omega (arith, job_count b.layers b.slots kept.frames_there (layers_of b.layers job), said, leb-true 1 j.frames within.0);
        most = omega (arith, job_count b.layers b.slots kept.frames_there (layers_of b.layers job), said, leb-true j.frames MOST_FRAMES within.1);
      }
    where
      own : AreOf b.layers b.slots kept.frames_there job (layers_of b.layers job)
      own n l at = let found = kept_from (λ (k : LayerRow). eqb k.job job) b.layers n l at in (found.0, eqb-true l.job job found.1)

  pub shape_holds : (job : ℕ) → is_of_pending b.jobs job ≡ true → ShapeHolds b.layers b.slots job
  shape_holds job pending =
      let j = for_some_true (find (λ (k : JobRow). eqb k.job job) b.jobs) is_pending_job pending in
      let number = eqb-true j.0.job job (found_is (λ (k : JobRow). eqb k.job job) b.jobs j.0 j.1) in
      of_its job j.0 number (find_passes (λ (k : JobRow). eqb k.job job) (is_formed_job shows) b.jobs j.0 kept.jobs_formed j.1)
      (kept.jobs_layered (position_or_len (λ (k : JobRow). eqb k.job job) b.jobs) j.0 (sym (find_at (λ (k : JobRow). eqb k.job job) b.jobs) ∙ j.1) j.2)
