-- What operators do to jobs and frames: pause, kill, eat and retry.
use Rattle.std.specs.Prelude.{ℕ, ◌==◌, ◌&&◌, Bool, true, false, not, List, [], ◌∷◌, map, filter, length, Option, None, Some, is_some, option_map, option_and_then, slice_get, nat_lt, if◌then◌else◌}
use Rattle.farm_types.specs.declared.depend.Place.{Place}
use Rattle.farm_types.specs.declared.entry.FramePlace.{FramePlace}
use Rattle.farm_types.specs.declared.refusal.Refusal.{Refusal}
use Rattle.farm_types.specs.declared.refusal.Refusal.TheVariants.{VersionSpent, WrongState}
use Rattle.farm_types.specs.declared.rows.JobRow.{JobRow}
use Rattle.farm_types.specs.declared.slot_row.Frame.{Frame}
use Rattle.farm_types.specs.declared.slot_row.SlotRow.{SlotRow}
use Rattle.farm_types.specs.declared.states.FrameState.{FrameState}
use Rattle.farm_types.specs.declared.states.FrameState.TheVariants as frame_state
use Rattle.farm_types.specs.Booking.{is_waiting}
use Rattle.farm_types.specs.DependActs.{job_missing, or_else, pending_named, place_refusal}
use Rattle.farm_types.specs.Depends.{is_done_state, shape_of}
use Rattle.farm_types.specs.Farm.{Farm, changed_at, for_some}
use Rattle.farm_types.specs.Groups.{part_of, slots_at}
use Rattle.farm_types.specs.Names.{frame_name}
use Rattle.farm_types.specs.Settle.{raised}
use Rattle.farm_types.specs.declared.limits.TheConstants.{LAST_VERSION}

-- ---- the frame that is named

abbrev pub place_of : FramePlace → Place
place_of p = record { job = p.job; layer = Some p.layer; frame = Some p.frame }

abbrev pub first_of : List ℕ → Option ℕ
first_of [] = None
first_of (slot ∷ slots) = Some slot

abbrev pub slot_in_job : Farm → FramePlace → Option JobRow → Option ℕ
slot_in_job f p None = None
slot_in_job f p (Some j) = first_of (slots_at (shape_of f j.job) (part_of (place_of p)))

-- the slot of the frame that is named, of a pending job
unfoldable pub slot_named : Farm → FramePlace → Option ℕ
slot_named f p = slot_in_job f p (pending_named f p.job)

abbrev pub slot_row_named : Farm → FramePlace → Option SlotRow
slot_row_named f p = option_and_then (slice_get f.slots) (slot_named f p)

-- ---- what a frame's state allows

-- a frame that isn't done may be killed, and one that is dead is
abbrev pub may_kill : FrameState → Bool
may_kill frame_state.Dead = false
may_kill state = not (is_done_state state)

-- a frame that isn't done may be eaten
abbrev pub may_eat : FrameState → Bool
may_eat state = not (is_done_state state)

-- a frame that doesn't wait may be retried
abbrev pub may_retry : FrameState → Bool
may_retry frame_state.Waiting = false
may_retry frame_state.Setup = false
may_retry frame_state.Depend = false
may_retry other = true

abbrev pub frame_state_refusal : (FrameState → Bool) → Option Frame → Option Refusal
frame_state_refusal may None = None
frame_state_refusal may (Some x) = if may x.state then None else Some (WrongState x.state)

abbrev pub state_refusal : (FrameState → Bool) → Option SlotRow → Option Refusal
state_refusal may None = None
state_refusal may (Some s) = frame_state_refusal may s.frame

-- the frame is there, and its state allows it
abbrev pub frame_act_refusal : (FrameState → Bool) → Farm → FramePlace → Option Refusal
frame_act_refusal may f p = or_else (place_refusal f (place_of p)) (state_refusal may (slot_row_named f p))

-- its slot has a version left for another attempt
abbrev pub version_refusal : List ℕ → Option SlotRow → Option Refusal
version_refusal name None = None
version_refusal name (Some s) = if nat_lt s.version LAST_VERSION then None else Some (VersionSpent name)

abbrev pub retry_refusal : Farm → FramePlace → Option Refusal
retry_refusal f p = or_else (frame_act_refusal may_retry f p) (version_refusal (frame_name p.frame p.layer) (slot_row_named f p))

-- a pending job of that name is there
abbrev pub job_there_refusal : Farm → List ℕ → Option JobRow → Option Refusal
job_there_refusal f name None = Some (job_missing f name)
job_there_refusal f name (Some j) = None

-- ---- what becomes of it

abbrev pub waits : SlotRow → Bool
waits s = for_some s.frame (λ (x : Frame). is_waiting x.state)

-- the slot without its attempt, its frame in that state; a frame that waited leaves its version
abbrev pub stopped_row : FrameState → SlotRow → SlotRow
stopped_row state s =
    record {
      version = if waits s then raised s.version else s.version;
      frame = option_map (λ (x : Frame). record x { state = state }) s.frame;
      proc = None;
    }

-- the slot without its attempt, its frame waiting as at first
abbrev pub retried_row : SlotRow → SlotRow
retried_row s = record { version = s.version; frame = option_map (λ (x : Frame). record x { state = frame_state.Waiting; retries = 0 }) s.frame; proc = None }

abbrev pub with_row_at : Farm → (SlotRow → SlotRow) → Option ℕ → Farm
with_row_at f change None = f
with_row_at f change (Some slot) = record f { slots = changed_at f.slots slot change }

-- the farm in which the slot of the named frame is changed
abbrev pub with_frame : Farm → FramePlace → (SlotRow → SlotRow) → Farm
with_frame f p change = with_row_at f change (slot_named f p)

-- ---- whole jobs

-- the slot has a frame of the job that isn't done
abbrev pub is_left_of : ℕ → SlotRow → Bool
is_left_of job s = for_some s.frame (λ (x : Frame). x.job == job && not (is_done_state x.state))

-- Each frame of the job that isn't done is eaten.
abbrev pub killed_row : ℕ → SlotRow → SlotRow
killed_row job s = if is_left_of job s then stopped_row frame_state.Eaten s else s

abbrev pub with_killed : Farm → Option JobRow → Farm
with_killed f None = f
with_killed f (Some j) = record f { slots = map (killed_row j.job) f.slots }

abbrev pub paused_row : ℕ → Bool → JobRow → JobRow
paused_row job paused j = if j.job == job then record j { paused = paused } else j

abbrev pub with_paused : Farm → Bool → Option JobRow → Farm
with_paused f paused None = f
with_paused f paused (Some j) = record f { jobs = map (paused_row j.job paused) f.jobs }

-- ---- attempts that end

abbrev pub has_attempt : SlotRow → Bool
has_attempt s = is_some s.proc

-- how many attempts a frame has
abbrev pub count_at : Option SlotRow → ℕ
count_at None = 0
count_at (Some s) = if has_attempt s then 1 else 0

-- how many attempts at frames of the job end as it is killed
abbrev pub count_of : Farm → Option JobRow → ℕ
count_of f None = 0
count_of f (Some j) = length (filter (λ (s : SlotRow). is_left_of j.job s && has_attempt s) f.slots)
