-- Ends that places name: the shape that shows what an end names, and what is refused of it.
use Rattle.std.specs.Prelude.{ℕ, ℤ, pos, ◌≡◌, Bool, List, Option, None, Some, Result, Ok, Err, find, slice_get, bytes_eq, if◌then◌else◌}
use Rattle.std.specs.List.{list_any}
use Rattle.std.specs.Ordering.{int_eq}
use Rattle.farm_types.specs.declared.depend.LayerShape.{LayerShape}
use Rattle.farm_types.specs.declared.depend.Place.{Place}
use Rattle.farm_types.specs.declared.depend.Shape.{Shape}
use Rattle.farm_types.specs.declared.refusal.Refusal.{Refusal}
use Rattle.farm_types.specs.declared.refusal.Refusal.TheVariants.{Unknown}
use Rattle.farm_types.specs.declared.slot_row.Frame.{Frame}
use Rattle.farm_types.specs.declared.slot_row.SlotRow.{SlotRow}
use Rattle.farm_types.specs.DependActs.{end_of, place_refusal}
use Rattle.farm_types.specs.Depends.{shape_of}
use Rattle.farm_types.specs.Farm.{Farm}
use Rattle.farm_types.specs.Groups.{all_slots}
use Rattle.farm_types.specs.Names.{frame_name}
use Rattle.farm_types.specs.declared.fault.FarmFault.{FarmFault}
use Rattle.farm_types.specs.declared.fault.FarmFault.TheVariants.{Refused, NoMemory}
use Rattle.farm_places.specs.declared.ends.FoundEnd.{FoundEnd}

-- ---- numbers of frames

abbrev pub number_of_frame : Option Frame → ℤ
number_of_frame None = pos 0
number_of_frame (Some x) = x.number

abbrev pub number_of_row : Option SlotRow → ℤ
number_of_row None = pos 0
number_of_row (Some s) = number_of_frame s.frame

-- the number of the frame in a slot
abbrev pub number_at : List SlotRow → ℕ → ℤ
number_at slots slot = number_of_row (slice_get slots slot)

-- ---- what a shape shows

abbrev pub is_called : List ℕ → LayerShape → Bool
is_called name l = bytes_eq l.name name

-- of a job's shape it shows what an end names: the layer of that name, or the slots of all
abbrev pub ShowsPart : Shape → Shape → Option (List ℕ) → Type 0
ShowsPart full shape None = all_slots shape.layers ≡ all_slots full.layers
ShowsPart full shape (Some name) = find (is_called name) shape.layers ≡ find (is_called name) full.layers

-- what is refused of an end whose job has the shape: the layer is there, where one is named, then its frame
abbrev pub frame_refusal_in : LayerShape → Option ℤ → Option Refusal
frame_refusal_in l None = None
frame_refusal_in l (Some number) = if list_any (int_eq number) l.numbers then None else Some (Unknown (frame_name number l.name))

abbrev pub layer_refusal_in : List ℕ → Option ℤ → Option LayerShape → Option Refusal
layer_refusal_in name frame None = Some (Unknown name)
layer_refusal_in name frame (Some l) = frame_refusal_in l frame

abbrev pub shape_refusal : Shape → Option (List ℕ) → Option ℤ → Option Refusal
shape_refusal shape None frame = None
shape_refusal shape (Some name) frame = layer_refusal_in name frame (find (is_called name) shape.layers)

-- ---- ends

-- the end that a place names, with a shape that shows what it names
pub record IsEnd (f : Farm) (p : Place) (e : FoundEnd) : Type 0 where
  pub accepted : place_refusal f p ≡ None
  pub end_is : e.end ≡ end_of f p
  pub shows : ShowsPart (shape_of f (end_of f p).job) e.shape p.layer

-- the end, or exactly what is refused of it
abbrev pub FindsEnd : Farm → Place → Result FoundEnd FarmFault → Type 0
FindsEnd f p (Ok e) = IsEnd f p e
FindsEnd f p (Err (Refused why)) = place_refusal f p ≡ Some why
FindsEnd f p (Err NoMemory) = Unit {0}
