-- Where the frames of the layers stand, and which of them wait.
use Rattle.std.specs.Prelude.{ℕ, ◌≡◌, ◌+◌, Bool, true, List, [], ◌∷◌, map, length, replicate, Option, Some, option_and_then, slice_get, if◌then◌else◌}
use Rattle.farm_types.specs.declared.job.JobSpec.{JobSpec}
use Rattle.farm_types.specs.declared.job.LayerSpec.{LayerSpec}
use Rattle.farm_types.specs.declared.rows.LayerRow.{LayerRow}
use Rattle.farm_types.specs.declared.slot_row.Frame.{Frame}
use Rattle.farm_types.specs.declared.slot_row.SlotRow.{SlotRow}
use Rattle.farm_types.specs.Jobs.{JobLists, frames_of, is_free, place_frames}
use Rattle.farm_types.specs.Farm.{is_placed, slot_from}
use Rattle.job_index.specs.Places.{LayerPlaces}
use Rattle.job_entries.specs.Entries.{layer_position}
use Rattle.job_book.specs.Index.{waits_in}

abbrev pub slots_of : LayerPlaces → List ℕ
slots_of x = x.slots

abbrev pub marks_of : LayerPlaces → List Bool
marks_of x = x.waiting

abbrev pub count_of : LayerPlaces → ℕ
count_of x = length x.slots

-- of a layer whose frames have no slots yet, and all wait
abbrev pub fresh_places : LayerSpec → LayerPlaces
fresh_places l = record { slots = replicate (length l.numbers) 0; waiting = replicate (length l.numbers) true }

-- what is reserved for a job: its name once more, and the lists of its layers' slots
pub record Spare : Type 0 where
  pub name : List ℕ
  pub layers : List LayerPlaces

abbrev pub spare_of : JobSpec → Spare
spare_of spec = record { name = spec.name; layers = map fresh_places spec.layers }

-- ---- layers

-- the slot at a position of the layer at that place among all
abbrev pub place_in : List (List ℕ) → ℕ → ℕ → Option ℕ
place_in places place position = option_and_then (λ (ns : List ℕ). slice_get ns position) (slice_get places place)

-- the slot of the frame at a position of a layer, where a job with these layers is placed next
abbrev pub new_slot : JobLists → List LayerSpec → ℕ → ℕ → Option ℕ
new_slot b layers layer position = slot_from 0 (is_placed b.next_job layer position) (place_frames b.slots (frames_of b.next_job 0 layers))

-- each layer has its slots in range order: the frame at a position stands first in the slot there, and nowhere where there is none;
-- and each slot with a frame is the first with it
pub record KeepsLayers (layers : List LayerRow) (slots : List SlotRow) (places : List (List ℕ)) : Type 0 where
  pub as_many : length places ≡ length layers
  pub found : (job layer position : ℕ) → slot_from 0 (is_placed job layer position) slots ≡ place_in places (layer_position job layer layers) position
  pub first : (slot : ℕ) (row : SlotRow) (x : Frame) → slice_get slots slot ≡ Some row → row.frame ≡ Some x
      → slot_from 0 (is_placed x.job x.layer x.position) slots ≡ Some slot

-- those positions of each layer are marked whose frames wait
pub record KeepsWaiting (slots : List SlotRow) (index : List LayerPlaces) : Type 0 where
  pub marks : (place : ℕ) (x : LayerPlaces) → slice_get index place ≡ Some x → x.waiting ≡ map (waits_in slots) x.slots

-- ---- placing

-- the places past the last slot that was ever used
abbrev pub places_past : ℕ → List Frame → List ℕ
places_past place [] = []
places_past place (x ∷ xs) = place ∷ places_past (place + 1) xs

-- where the frames go in order, each into the lowest free slot, counted from a place
abbrev pub put_places : ℕ → List SlotRow → List Frame → List ℕ
put_places place [] frames = places_past place frames
put_places place (s ∷ ss) [] = []
put_places place (s ∷ ss) (x ∷ xs) = if is_free s then place ∷ put_places (place + 1) ss xs else put_places (place + 1) ss (x ∷ xs)
