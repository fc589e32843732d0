-- Depends: who waits for whom, what is met, and which frames are open.
use Rattle.std.specs.Prelude.{ℕ, ℤ, ◌==◌, ◌&&◌, ◌||◌, ◌+◌, Bool, true, false, not, List, [], ◌∷◌, map, length, sum_by, Option, None, Some, slice_get, if◌then◌else◌}
use Rattle.std.specs.List.{list_any, list_all}
use Rattle.farm_types.specs.declared.depend.DependRow.{DependRow}
use Rattle.farm_types.specs.declared.depend.Group.{Group}
use Rattle.farm_types.specs.declared.depend.LayerShape.{LayerShape}
use Rattle.farm_types.specs.declared.depend.Shape.{Shape}
use Rattle.farm_types.specs.declared.rows.LayerRow.{LayerRow}
use Rattle.farm_types.specs.declared.slot_row.SlotRow.{SlotRow}
use Rattle.farm_types.specs.declared.states.FrameState.{FrameState}
use Rattle.farm_types.specs.declared.states.FrameState.TheVariants as frame_state
use Rattle.farm_types.specs.Farm.{Farm, for_some, is_placed, layers_of, slot_from}
use Rattle.farm_types.specs.Groups.{groups_by, part_at}
use Rattle.farm_types.specs.Ranges.{range_numbers}

-- ---- groups

abbrev pub or_first : Option ℕ → ℕ
or_first None = 0
or_first (Some slot) = slot

-- the slot of the frame at a position of a job's layer
abbrev pub slot_placed : List SlotRow → ℕ → ℕ → ℕ → ℕ
slot_placed slots job layer position = or_first (slot_from 0 (is_placed job layer position) slots)

-- a slot for each of the numbers of a layer, counted from a position
abbrev pub slots_placed : List SlotRow → ℕ → ℕ → ℕ → List ℤ → List ℕ
slots_placed slots job layer position [] = []
slots_placed slots job layer position (n ∷ ns) = slot_placed slots job layer position ∷ slots_placed slots job layer (position + 1) ns

abbrev pub layer_shape : List SlotRow → LayerRow → LayerShape
layer_shape slots l =
    record { name = l.name; numbers = range_numbers l.range; slots = slots_placed slots l.job l.place 0 (range_numbers l.range) }

-- the layers of a job with their frames, in range order
abbrev pub shape_in : List LayerRow → List SlotRow → ℕ → Shape
shape_in layers slots job = record { layers = map (layer_shape slots) (layers_of layers job) }

abbrev pub shape_of : Farm → ℕ → Shape
shape_of f job = shape_in f.layers f.slots job

-- the groups of a depend
abbrev pub groups_in : List LayerRow → List SlotRow → DependRow → List Group
groups_in layers slots d =
    groups_by d.kind d.any (part_at d.waiter) (part_at d.target) (shape_in layers slots d.waiter.job) (shape_in layers slots d.target.job)

unfoldable pub groups_of : Farm → DependRow → List Group
groups_of f d = groups_in f.layers f.slots d

-- how many groups the depends have together that aren't satisfied
abbrev pub groups_left : Farm → ℕ
groups_left f = sum_by (λ (d : DependRow). if d.met_all then 0 else length (groups_of f d)) f.depends

-- ---- what is done

abbrev pub is_done_state : FrameState → Bool
is_done_state frame_state.Succeeded = true
is_done_state frame_state.Eaten = true
is_done_state other = false

-- the frame in the slot is done
abbrev pub is_done : List SlotRow → ℕ → Bool
is_done slots slot = for_some (slice_get slots slot) (λ (s : SlotRow). for_some s.frame (λ x. is_done_state x.state))

-- all targets of the group are done, or one of them where any is enough
abbrev pub are_done : (ℕ → Bool) → Group → Bool
are_done done g = if g.any then list_any done g.targets else list_all done g.targets

-- ---- what is met

-- a group was marked as met
abbrev pub is_marked : Farm → DependRow → Group → Bool
is_marked f d g = list_any (λ m. m.depend == d.depend && m.position == g.position) f.met

-- a group is met for good once it was marked so, and so are all groups of a satisfied depend
abbrev pub is_met : Farm → DependRow → Group → Bool
is_met f d g = d.met_all || is_marked f d g

-- ---- open frames

-- the frame in the slot waits in the group
abbrev pub waits_in : ℕ → Group → Bool
waits_in slot g = list_any (λ w. w == slot) g.waiters

-- a frame is open where it waits in no unmet group
abbrev pub is_open : Farm → ℕ → Bool
is_open f slot = list_all (λ d. list_all (λ g. is_met f d g || not (waits_in slot g)) (groups_of f d)) f.depends
