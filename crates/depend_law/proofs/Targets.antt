-- Each group of a depend whose ends are there has a target.
use Rattle.std.proofs.Common.{◌≡◌, ◌≤◌, ℕ, suc, ◌+◌, Bool, true, false, cond, ◌||◌, eqb, List, [], ◌∷◌, map, length, Option, Some, None, ℤ, refl, sym, ap, subst, ◌∙◌, arith, option_map}
use Rattle.std.specs.Prelude.{bytes_eq, nat_lt}
use Rattle.std.specs.List.{AllByRecursion, find, list_any}
use Rattle.std.specs.Ordering.{int_eq}
use Rattle.std.proofs.lemmas.Bool.{false≢true}
use Rattle.std.proofs.lemmas.Cmp.{int_eq_equiv}
use Rattle.farm_types.specs.declared.depend.DependEnd.{DependEnd}
use Rattle.farm_types.specs.declared.depend.DependKind.{DependKind}
use Rattle.farm_types.specs.declared.depend.DependKind.TheVariants.{JobOnJob, JobOnLayer, JobOnFrame, LayerOnJob, LayerOnLayer, LayerOnFrame, FrameOnJob, FrameOnLayer, FrameOnFrame, FrameByFrame, PreviousFrame}
use Rattle.farm_types.specs.declared.depend.DependRow.{DependRow}
use Rattle.farm_types.specs.declared.depend.Group.{Group}
use Rattle.farm_types.specs.declared.depend.LayerShape.{LayerShape}
use Rattle.farm_types.specs.declared.depend.Shape.{Shape}
use Rattle.farm_types.specs.declared.limits.TheConstants.{MOST_LAYERS}
use Rattle.farm_types.specs.declared.rows.LayerRow.{LayerRow}
use Rattle.farm_types.specs.declared.slot_row.SlotRow.{SlotRow}
use Rattle.farm_types.specs.Depends.{groups_of, layer_shape, shape_of, slots_placed}
use Rattle.farm_types.specs.Farm.{Farm, layers_of}
use Rattle.farm_types.specs.Forms.{is_name_text}
use Rattle.farm_types.specs.Groups.{Part, group_of, groups_by, groups_by_number, groups_in_step, groups_of_previous, layer_called, layer_named_by, or_no_layer, part_at, slot_numbered, slots_at, slots_of_layer, slots_of_part}
use Rattle.farm_types.specs.Kept.{KeepsRows, has_frame_in, has_part, is_end_there, is_formed_layer, is_of_pending}
use Rattle.farm_types.specs.Ranges.{is_range_text, range_numbers}
use Rattle.farm_types.proofs.Lists.{and_both, find_passes, for_some_true}
use Rattle.farm_types.proofs.Ranges.{range_some}
use Rattle.farm_law.proofs.Filtered.{list_all-filter}
use Rattle.depend_law.proofs.Among.{each_append}
use Rattle.depend_law.proofs.Waiters.{job_shape}

-- ---- the groups of each kind

abbrev pub HasTarget : Group → Type 0
HasTarget g = 1 ≤ length g.targets

of_group : (position : ℕ) (any : Bool) (slot : ℕ) (targets : List ℕ) → AllByRecursion HasTarget (group_of position any slot targets)
of_group position any slot [] = tt
of_group position any slot (t ∷ ts) = (omega arith, tt)

by_number : (position : ℕ) (any : Bool) (ns : List ℤ) (ss : List ℕ) (target : LayerShape) → AllByRecursion HasTarget (groups_by_number position any ns ss target)
by_number position any [] ss target = tt
by_number position any (n ∷ ns) [] target = tt
by_number position any (n ∷ ns) (s ∷ ss) target =
    let found = slot_numbered n target.numbers target.slots in
    each_append HasTarget (group_of position any s found) (groups_by_number (position + 1) any ns ss target) (of_group position any s found) (by_number (position + 1) any ns ss target)

in_step : (position : ℕ) (any : Bool) (ss ts : List ℕ) → AllByRecursion HasTarget (groups_in_step position any ss ts)
in_step position any [] ts = tt
in_step position any (s ∷ ss) [] = tt
in_step position any (s ∷ ss) (t ∷ ts) = (omega arith, in_step (position + 1) any ss ts)

of_previous : (any : Bool) (ss ts : List ℕ) → AllByRecursion HasTarget (groups_of_previous any ss ts)
of_previous any [] ts = tt
of_previous any (s ∷ ss) ts = in_step 1 any ss ts

module _ (any : Bool) (waiter target : Part) (waiters targets : Shape) (some : 1 ≤ length (slots_at targets target)) where
  -- where the target end has slots
  by_kind : (kind : DependKind) → AllByRecursion HasTarget (groups_by kind any waiter target waiters targets)
  by_kind FrameByFrame = by_number 0 any (layer_named_by waiters waiter).numbers (layer_named_by waiters waiter).slots (layer_named_by targets target)
  by_kind PreviousFrame = of_previous any (layer_named_by waiters waiter).slots (layer_named_by targets target).slots
  by_kind JobOnJob = (some, tt)
  by_kind JobOnLayer = (some, tt)
  by_kind JobOnFrame = (some, tt)
  by_kind LayerOnJob = (some, tt)
  by_kind LayerOnLayer = (some, tt)
  by_kind LayerOnFrame = (some, tt)
  by_kind FrameOnJob = (some, tt)
  by_kind FrameOnLayer = (some, tt)
  by_kind FrameOnFrame = (some, tt)

-- ---- the slots of an end

placed_length : (slots : List SlotRow) (job layer position : ℕ) (ns : List ℤ) → length (slots_placed slots job layer position ns) ≡ length ns
placed_length slots job layer position [] = refl
placed_length slots job layer position (n ∷ ns) = ap suc (placed_length slots job layer (position + 1) ns)

numbered_step : (number n : ℤ) (s : ℕ) (rest found : List ℕ) (b more : Bool) → int_eq n number ≡ b → (int_eq number n || more) ≡ true → (more ≡ true → 1 ≤ length found) → 1 ≤ length (cond b (s ∷ []) found)
numbered_step number n s rest found true more is h later = omega arith
numbered_step number n s rest found false more is h later = later (ap (λ (b : Bool). b || more) (sym (int_eq_equiv.symm number n ∙ is)) ∙ h)

-- a number that is there has its slot
numbered_some : (number : ℤ) (ns : List ℤ) (ss : List ℕ) → length ss ≡ length ns → list_any (int_eq number) ns ≡ true → 1 ≤ length (slot_numbered number ns ss)
numbered_some number [] ss long h = absurd (false≢true h)
numbered_some number (n ∷ ns) [] long h = absurd (omega (arith, long))
numbered_some number (n ∷ ns) (s ∷ ss) long h =
    numbered_step number n s ss (slot_numbered number ns ss) (int_eq n number) (list_any (int_eq number) ns) refl h (numbered_some number ns ss (omega (arith, long)))

called_step : (h : LayerRow → LayerShape) (l : LayerRow) (o : Option LayerRow) (b : Bool) → cond b (Some (h l)) (option_map h o) ≡ option_map h (cond b (Some l) o)
called_step h l o true = refl
called_step h l o false = refl

-- the layer of a name, among shapes
called_found : (slots : List SlotRow) (name : List ℕ) (ls : List LayerRow) → find (λ (k : LayerShape). bytes_eq k.name name) (map (layer_shape slots) ls) ≡ option_map (layer_shape slots) (find (λ (l : LayerRow). bytes_eq l.name name) ls)
called_found slots name [] = refl
called_found slots name (l ∷ ls) =
    ap (cond (bytes_eq l.name name) (Some (layer_shape slots l))) (called_found slots name ls)
    ∙ called_step (layer_shape slots) l (find (λ (k : LayerRow). bytes_eq k.name name) ls) (bytes_eq l.name name)

part_some : (slots : List SlotRow) (l : LayerRow) (frame : Option ℤ) → is_formed_layer l ≡ true → has_frame_in frame l ≡ true → 1 ≤ length (slots_of_part (layer_shape slots l) frame)
part_some slots l None formed has =
    let rest = (and_both (is_name_text l.name) _ formed).1 in
    let range = (and_both (is_range_text l.range) _ (and_both (nat_lt l.place MOST_LAYERS) _ rest).1).0 in
    omega (arith, placed_length slots l.job l.place 0 (range_numbers l.range), range_some l.range range)
part_some slots l (Some number) formed has =
    numbered_some number (range_numbers l.range) (slots_placed slots l.job l.place 0 (range_numbers l.range)) (placed_length slots l.job l.place 0 (range_numbers l.range)) has

module _ (f : Farm) (rows : KeepsRows f) where
  named_some : (job : ℕ) (layer : Option (List ℕ)) (frame : Option ℤ) → is_of_pending f.jobs job ≡ true → has_part (layers_of f.layers job) layer frame ≡ true → 1 ≤ length (slots_of_layer (shape_of f job).layers layer frame)
  named_some job None frame pending has = (job_shape f rows job pending).least
  named_some job (Some name) frame pending has =
      let own = layers_of f.layers job in
      let l = for_some_true (find (λ (k : LayerRow). bytes_eq k.name name) own) (has_frame_in frame) has in
      let formed = find_passes (λ (k : LayerRow). bytes_eq k.name name) is_formed_layer own l.0 (list_all-filter is_formed_layer (λ (k : LayerRow). eqb k.job job) f.layers rows.jobs.layers_formed) l.1 in
      let called : layer_called name (map (layer_shape f.slots) own) ≡ layer_shape f.slots l.0 = ap or_no_layer (called_found f.slots name own ∙ ap (option_map (layer_shape f.slots)) l.1) in
      subst (λ (k : LayerShape). 1 ≤ length (slots_of_part k frame)) (sym called) (part_some f.slots l.0 frame formed l.2)

  -- an end that is there has a slot
  pub end_some : (e : DependEnd) → is_end_there f e ≡ true → 1 ≤ length (slots_at (shape_of f e.job) (part_at e))
  end_some e there =
      let parts = and_both (is_of_pending f.jobs e.job) (has_part (layers_of f.layers e.job) e.layer e.frame) there in
      named_some e.job e.layer e.frame parts.0 parts.1

  -- so that each group has a target
  pub groups_targets : (d : DependRow) → is_end_there f d.target ≡ true → AllByRecursion HasTarget (groups_of f d)
  unfolding groups_of
  groups_targets d there = by_kind d.any (part_at d.waiter) (part_at d.target) (shape_of f d.waiter.job) (shape_of f d.target.job) (end_some d.target there) d.kind
