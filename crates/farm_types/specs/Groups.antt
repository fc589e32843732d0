-- The groups of a depend, read from the layers' lists of numbers.
use Rattle.std.specs.Prelude.{ℕ, ℤ, ◌+◌, Bool, List, [], ◌∷◌, ◌++◌, Option, None, Some, find, bytes_eq, if◌then◌else◌}
use Rattle.std.specs.Ordering.{int_eq}
use Rattle.farm_types.specs.declared.depend.DependEnd.{DependEnd}
use Rattle.farm_types.specs.declared.depend.DependKind.{DependKind}
use Rattle.farm_types.specs.declared.depend.DependKind.TheVariants.{FrameByFrame, PreviousFrame}
use Rattle.farm_types.specs.declared.depend.Group.{Group}
use Rattle.farm_types.specs.declared.depend.LayerShape.{LayerShape}
use Rattle.farm_types.specs.declared.depend.Place.{Place}
use Rattle.farm_types.specs.declared.depend.Shape.{Shape}

-- ---- frames that an end names

-- what an end names of its job: all of it, a layer, or the frame of that number in the layer
pub record Part : Type 0 where
  pub layer : Option (List ℕ)
  pub frame : Option ℤ

abbrev pub part_of : Place → Part
part_of p = record { layer = p.layer; frame = p.frame }

abbrev pub part_at : DependEnd → Part
part_at e = record { layer = e.layer; frame = e.frame }

-- the slot of the frame of that number, in a list of one, or none
abbrev pub slot_numbered : ℤ → List ℤ → List ℕ → List ℕ
slot_numbered number [] slots = []
slot_numbered number (n ∷ ns) [] = []
slot_numbered number (n ∷ ns) (s ∷ ss) = if int_eq n number then s ∷ [] else slot_numbered number ns ss

-- the slots of a layer, or that of the frame of that number
abbrev pub slots_of_part : LayerShape → Option ℤ → List ℕ
slots_of_part l None = l.slots
slots_of_part l (Some number) = slot_numbered number l.numbers l.slots

abbrev pub no_layer : LayerShape
no_layer = record { name = []; numbers = []; slots = [] }

abbrev pub or_no_layer : Option LayerShape → LayerShape
or_no_layer None = no_layer
or_no_layer (Some l) = l

-- the layer of that name, or one without frames where there is none
abbrev pub layer_called : List ℕ → List LayerShape → LayerShape
layer_called name layers = or_no_layer (find (λ (l : LayerShape). bytes_eq l.name name) layers)

-- the slots of all layers, in order
abbrev pub all_slots : List LayerShape → List ℕ
all_slots [] = []
all_slots (l ∷ ls) = l.slots ++ all_slots ls

abbrev pub slots_of_layer : List LayerShape → Option (List ℕ) → Option ℤ → List ℕ
slots_of_layer layers None frame = all_slots layers
slots_of_layer layers (Some name) frame = slots_of_part (layer_called name layers) frame

-- the slots of the frames that an end names, layer by layer, in range order
abbrev pub slots_at : Shape → Part → List ℕ
slots_at shape part = slots_of_layer shape.layers part.layer part.frame

-- the layer that an end names, or one without frames
abbrev pub layer_of_part : List LayerShape → Option (List ℕ) → LayerShape
layer_of_part layers None = no_layer
layer_of_part layers (Some name) = layer_called name layers

abbrev pub layer_named_by : Shape → Part → LayerShape
layer_named_by shape part = layer_of_part shape.layers part.layer

-- ---- a group for each waiting frame

-- the group of one waiting frame, where it has a target
abbrev pub group_of : ℕ → Bool → ℕ → List ℕ → List Group
group_of position any slot [] = []
group_of position any slot (t ∷ ts) = record { position = position; waiters = slot ∷ []; targets = t ∷ ts; any = any } ∷ []

-- each frame of the numbers, counted from a position, waits for that of its number in the target layer
abbrev pub groups_by_number : ℕ → Bool → List ℤ → List ℕ → LayerShape → List Group
groups_by_number position any [] slots target = []
groups_by_number position any (n ∷ ns) [] target = []
groups_by_number position any (n ∷ ns) (s ∷ ss) target =
    group_of position any s (slot_numbered n target.numbers target.slots) ++ groups_by_number (position + 1) any ns ss target

-- each of the slots, counted from a position, waits for the one at its place in the second list
abbrev pub groups_in_step : ℕ → Bool → List ℕ → List ℕ → List Group
groups_in_step position any [] targets = []
groups_in_step position any (s ∷ ss) [] = []
groups_in_step position any (s ∷ ss) (t ∷ ts) =
    record { position = position; waiters = s ∷ []; targets = t ∷ []; any = any } ∷ groups_in_step (position + 1) any ss ts

-- all but the first wait, each for the one at the position before its own
abbrev pub groups_of_previous : Bool → List ℕ → List ℕ → List Group
groups_of_previous any [] targets = []
groups_of_previous any (s ∷ ss) targets = groups_in_step 1 any ss targets

-- ---- groups

-- Frame by frame, each frame of the layer waits for the one of its number in the target layer, where that has it. By the previous frame,
-- each waits for the one at the position before its own. Of every other kind there is one group: all frames of the one end wait for all of
-- the other.
abbrev pub groups_by : DependKind → Bool → Part → Part → Shape → Shape → List Group
groups_by FrameByFrame any waiter target waiters targets =
    groups_by_number 0 any (layer_named_by waiters waiter).numbers (layer_named_by waiters waiter).slots (layer_named_by targets target)
groups_by PreviousFrame any waiter target waiters targets =
    groups_of_previous any (layer_named_by waiters waiter).slots (layer_named_by targets target).slots
groups_by kind any waiter target waiters targets =
    record { position = 0; waiters = slots_at waiters waiter; targets = slots_at targets target; any = any } ∷ []
