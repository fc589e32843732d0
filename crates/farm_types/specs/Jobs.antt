-- The farm's jobs, their layers and the frame slots, and what a submitted job makes of them.
use Rattle.std.specs.Prelude.{ℕ, ℤ, ◌+◌, ◌-◌, ◌&&◌, Bool, not, List, [], ◌∷◌, ◌++◌, length, map, filter, sum_by, is_none, Option, None, Some, option_and_then, slice_get, nat_lt, bytes_eq, if◌then◌else◌}
use Rattle.std.specs.List.{list_any}
use Rattle.farm_types.specs.declared.job.JobSpec.{JobSpec}
use Rattle.farm_types.specs.declared.job.LayerSpec.{LayerSpec}
use Rattle.farm_types.specs.declared.refusal.Counted.TheVariants as counted
use Rattle.farm_types.specs.declared.refusal.Refusal.{Refusal}
use Rattle.farm_types.specs.declared.refusal.Refusal.TheVariants.{Exists, FarmFull, Full}
use Rattle.farm_types.specs.declared.rows.JobRow.{JobRow}
use Rattle.farm_types.specs.declared.rows.LayerRow.{LayerRow}
use Rattle.farm_types.specs.declared.slot_row.Frame.{Frame}
use Rattle.farm_types.specs.declared.slot_row.SlotRow.{SlotRow}
use Rattle.farm_types.specs.declared.states.FrameState.TheVariants as frame_state
use Rattle.farm_types.specs.declared.states.JobState.TheVariants as job_state
use Rattle.farm_types.specs.Booking.{is_pending}
use Rattle.farm_types.specs.declared.limits.TheConstants.{LAST_JOB, LAST_VERSION, SLOT_LIMIT}

-- jobs and layers in the order of their numbers, slots up to the last that was ever used, and the next numbers of a job and of a finish
pub record JobLists : Type 0 where
  pub jobs : List JobRow
  pub layers : List LayerRow
  pub slots : List SlotRow
  pub next_job : ℕ
  pub next_finish : ℕ

-- how many frames the layers have together
abbrev pub frames_in : List LayerSpec → ℕ
frames_in layers = sum_by (λ (l : LayerSpec). length l.numbers) layers

-- ---- free slots

-- a slot is free where it has no frame and may still rise in version
abbrev pub is_free : SlotRow → Bool
is_free s = is_none s.frame && nat_lt s.version LAST_VERSION

abbrev pub free_among : List SlotRow → ℕ
free_among slots = sum_by (λ (s : SlotRow). if is_free s then 1 else 0) slots

-- the free slots that were used before, and all that never were
abbrev pub free_in : List SlotRow → ℕ
free_in slots = free_among slots + (SLOT_LIMIT - length slots)

-- ---- a job's rows

abbrev pub job_row : ℕ → ℕ → JobSpec → JobRow
job_row job show spec =
    record {
      job = job;
      name = spec.name;
      show = show;
      facility = spec.facility;
      shot = spec.shot;
      user = spec.user;
      priority = spec.priority;
      max_retries = spec.max_retries;
      auto_eat = spec.auto_eat;
      paused = spec.paused;
      state = job_state.Pending;
      frames = frames_in spec.layers;
      finish = 0;
      eaten = 0;
      succeeded = 0;
    }

abbrev pub layer_row : ℕ → ℕ → Option ℕ → LayerSpec → LayerRow
layer_row job place limit l =
    record {
      job = job;
      place = place;
      name = l.name;
      range = l.range;
      command = l.command;
      cores = l.cores;
      memory = l.memory;
      tags = l.tags;
      limit = limit;
    }

-- the limit of the layer at a place, of these by their places
abbrev pub limit_in : List (Option ℕ) → ℕ → Option ℕ
limit_in limits place = option_and_then (λ limit. limit) (slice_get limits place)

-- the layers, numbered from a place, with the limits at their places
abbrev pub layer_rows : ℕ → List (Option ℕ) → ℕ → List LayerSpec → List LayerRow
layer_rows job limits place [] = []
layer_rows job limits place (l ∷ ls) = layer_row job place (limit_in limits place) l ∷ layer_rows job limits (place + 1) ls

-- ---- its frames

abbrev pub new_frame : ℕ → ℕ → ℕ → ℤ → Frame
new_frame job layer position number = record { job = job; layer = layer; position = position; number = number; retries = 0; state = frame_state.Waiting }

-- the frames of a layer's numbers, counted from a position
abbrev pub frames_from : ℕ → ℕ → ℕ → List ℤ → List Frame
frames_from job layer position [] = []
frames_from job layer position (n ∷ ns) = new_frame job layer position n ∷ frames_from job layer (position + 1) ns

-- the frames of the layers, numbered from a place: layer by layer, each in range order
abbrev pub frames_of : ℕ → ℕ → List LayerSpec → List Frame
frames_of job place [] = []
frames_of job place (l ∷ ls) = frames_from job place 0 l.numbers ++ frames_of job (place + 1) ls

-- ---- placing

-- the slot with that frame, at its version
abbrev pub slot_with : Frame → SlotRow → SlotRow
slot_with frame s = record s { frame = Some frame }

-- a slot that was never used, with that frame
abbrev pub fresh_slot : Frame → SlotRow
fresh_slot frame = record { version = 0; frame = Some frame; proc = None }

-- the frames in order, each in the lowest free slot
abbrev pub place_frames : List SlotRow → List Frame → List SlotRow
place_frames [] frames = map fresh_slot frames
place_frames (s ∷ ss) [] = s ∷ ss
place_frames (s ∷ ss) (x ∷ xs) = if is_free s then slot_with x s ∷ place_frames ss xs else s ∷ place_frames ss (x ∷ xs)

abbrev pub is_finished_named : List ℕ → JobRow → Bool
is_finished_named name j = not (is_pending j.state) && bytes_eq j.name name

-- the jobs without a finished one of that name
abbrev pub without_finished : List ℕ → List JobRow → List JobRow
without_finished name jobs = filter (λ j. not (is_finished_named name j)) jobs

-- the lists with the job of a spec, of the show of that number, its layers with these limits; a finished job of its name goes
abbrev pub with_job : JobLists → ℕ → List (Option ℕ) → JobSpec → JobLists
with_job b show limits spec =
    record {
      jobs = without_finished spec.name b.jobs ++ job_row b.next_job show spec ∷ [];
      layers = b.layers ++ layer_rows b.next_job limits 0 spec.layers;
      slots = place_frames b.slots (frames_of b.next_job 0 spec.layers);
      next_job = b.next_job + 1;
      next_finish = b.next_finish;
    }

-- ---- refusals

abbrev pub is_pending_named : List ℕ → JobRow → Bool
is_pending_named name j = is_pending j.state && bytes_eq j.name name

-- the first layer's name that stood before it, among these or in the list
abbrev pub repeated_name : List (List ℕ) → List LayerSpec → Option (List ℕ)
repeated_name before [] = None
repeated_name before (l ∷ ls) = if list_any (λ name. bytes_eq l.name name) before then Some l.name else repeated_name (l.name ∷ before) ls

-- no slot for each frame, or no number for the job
abbrev pub room_refusal : JobLists → JobSpec → Option Refusal
room_refusal b spec =
    if nat_lt (free_in b.slots) (frames_in spec.layers) then Some (FarmFull (free_in b.slots))
    else (if nat_lt LAST_JOB b.next_job then Some (Full LAST_JOB counted.Jobs) else None)

abbrev pub layers_refusal : JobLists → JobSpec → Option (List ℕ) → Option Refusal
layers_refusal b spec None = room_refusal b spec
layers_refusal b spec (Some name) = Some (Exists name)

-- the first of: a pending job of that name, a layer's name that stands twice, too few free slots, no number left
abbrev pub job_refusal : JobLists → JobSpec → Option Refusal
job_refusal b spec =
    if list_any (is_pending_named spec.name) b.jobs then Some (Exists spec.name) else layers_refusal b spec (repeated_name [] spec.layers)
