-- What jobs and the lists of their layers are made of where their rows are given.
use Rattle.std.specs.Prelude.{ℕ, ◌≡◌, ◌==◌, ◌+◌, true, List, [], ◌∷◌, length, map, replicate, take, drop, Option, None, Some}
use Rattle.std.specs.List.{prefix_len}
use Rattle.farm_types.specs.declared.rows.JobRow.{JobRow}
use Rattle.farm_types.specs.declared.rows.LayerRow.{LayerRow}
use Rattle.farm_types.specs.declared.slot_row.Frame.{Frame}
use Rattle.farm_types.specs.declared.slot_row.SlotRow.{SlotRow}
use Rattle.farm_types.specs.Booking.{is_waiting}
use Rattle.farm_types.specs.Farm.{changed_at}
use Rattle.farm_types.specs.Ranges.{range_numbers}
use Rattle.job_entries.specs.declared.counts.Counts.{Counts}
use Rattle.job_entries.specs.declared.entries.Place.{Place}
use Rattle.job_entries.specs.Entries.{are_layers, layer_position}
use Rattle.job_entries.specs.OneJob.{AllJobs}
use Rattle.job_index.specs.Places.{LayerPlaces, with_slot}

-- ---- where the frames of layers stand

-- how many frames the layer's range says
abbrev pub range_length : LayerRow → ℕ
range_length l = length (range_numbers l.range)

-- a layer whose frames have no slots yet
abbrev pub unplaced : LayerRow → LayerPlaces
unplaced l = record { slots = replicate (range_length l) 0; waiting = replicate (range_length l) true }

-- the slot's frame is noted at its layer
abbrev pub noted_frame : ℕ → List LayerRow → Option Frame → List LayerPlaces → List LayerPlaces
noted_frame slot layers None index = index
noted_frame slot layers (Some x) index = changed_at index (layer_position x.job x.layer layers) (with_slot x.position slot (is_waiting x.state))

-- the frames of these slots, counted from a place, are noted in turn
abbrev pub noted_from : ℕ → List LayerRow → List SlotRow → List LayerPlaces → List LayerPlaces
noted_from place layers [] index = index
noted_from place layers (s ∷ ss) index = noted_from (place + 1) layers ss (noted_frame place layers s.frame index)

-- ---- jobs with their layers

-- how many layers of the job stand in front
abbrev pub own_count : ℕ → List LayerRow → ℕ
own_count job layers = prefix_len (λ (l : LayerRow). l.job == job) layers

-- the layers are those of the jobs, one job after another, and each job's are at its places
abbrev pub AreOwned : List JobRow → List LayerRow → Type 0
AreOwned [] layers = layers ≡ []
AreOwned (j ∷ js) layers = (are_layers j.job 0 (take (own_count j.job layers) layers) ≡ true) × AreOwned js (drop (own_count j.job layers) layers)

-- all jobs of these rows, each at a place of its own
abbrev pub all_in : List JobRow → List Counts → List LayerRow → List LayerPlaces → ℕ → AllJobs
all_in rows counts layers index next =
    record { rows = rows; counts = counts; layers = layers; index = index; next = next; numbers = map (λ (j : JobRow). j.job) rows }

-- the place of a job, with what is kept of it
abbrev pub place_with : JobRow → Counts → List LayerRow → List LayerPlaces → Place
place_with row counts layers index = record { job = row.job; held = Some (record { row = row; counts = counts; layers = layers; index = index }) }
