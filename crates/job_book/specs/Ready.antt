-- The ready jobs of each show, as the book keeps them: by keys that rise.
use Rattle.std.specs.Prelude.{ℕ, ◌≡◌, ◌==◌, ◌&&◌, ◌+◌, ◌-◌, ◌*◌, Bool, true, false, List, [], map, filter, length, nat_le}
use Rattle.std.specs.Prelude.{nat_lt, Option, None, Some, IfSome, slice_get}
use Rattle.std.specs.List.{list_all}
use Rattle.farm_types.specs.declared.rows.JobRow.{JobRow}
use Rattle.farm_types.specs.declared.slot_row.SlotRow.{SlotRow}
use Rattle.farm_types.specs.declared.states.FrameState.TheVariants as frame_state
use Rattle.farm_types.specs.Booking.{is_pending}
use Rattle.farm_types.specs.Farm.{changed_at}
use Rattle.farm_types.specs.declared.limits.TheConstants.{MOST_PRIORITY, MOST_SHOWS}
use Rattle.job_book.specs.Book.{count_in}
use Rattle.job_index.specs.Keys.{CanPut, drop_key, job_of, put_key, sorted}
use Rattle.job_index.specs.declared.ready_jobs.TheConstants.{JOB_NUMBERS}

-- ---- keys

-- keys rise by priority, the highest first, and then by number
abbrev pub ready_key : JobRow → ℕ
ready_key j = (MOST_PRIORITY - j.priority) * JOB_NUMBERS + j.job

-- the numbers of a list, where it is there
abbrev pub jobs_in : Option (List ℕ) → List ℕ
jobs_in None = []
jobs_in (Some keys) = map job_of keys

-- ---- ready jobs

-- one of the job's frames waits
abbrev pub waits : List SlotRow → ℕ → Bool
waits slots job = nat_lt 0 (count_in job frame_state.Waiting slots)

abbrev pub is_ready_in : List SlotRow → ℕ → JobRow → Bool
is_ready_in slots show j = j.show == show && (is_pending j.state && waits slots j.job)

-- the keys of a show's ready jobs
abbrev pub ready_keys : List JobRow → List SlotRow → ℕ → List ℕ
ready_keys jobs slots show = sorted (map ready_key (filter (is_ready_in slots show) jobs))

abbrev pub has_priority : JobRow → Bool
has_priority j = nat_le j.priority MOST_PRIORITY

-- each show's list has the keys of its ready jobs
pub record KeepsReady (jobs : List JobRow) (slots : List SlotRow) (ready : List (List ℕ)) : Type 0 where
  pub priorities : list_all has_priority jobs ≡ true
  pub as_many : length ready ≡ MOST_SHOWS
  pub keys : (show : ℕ) (ks : List ℕ) → slice_get ready show ≡ Some ks → ks ≡ ready_keys jobs slots show

-- ---- changes

-- a job can become ready, where it didn't stand among the ready ones
abbrev pub CanBeReady : JobRow → List (List ℕ) → Type 0
CanBeReady j ready = IfSome (slice_get ready j.show) (CanPut (ready_key j))

-- whether a job had a waiting frame, and whether it has one
abbrev pub change_of : Bool → Bool → List (List ℕ) → JobRow → List (List ℕ)
change_of false true ready j = changed_at ready j.show (put_key (ready_key j))
change_of true false ready j = changed_at ready j.show (drop_key (ready_key j))
change_of false false ready j = ready
change_of true true ready j = ready

abbrev pub changed_ready : Bool → Bool → List (List ℕ) → Option JobRow → List (List ℕ)
changed_ready had has ready None = ready
changed_ready had has ready (Some j) = change_of had has ready j

abbrev pub CanChange : Bool → Bool → List (List ℕ) → Option JobRow → Type 0
CanChange had has ready None = Unit {0}
CanChange had has ready (Some j) = (has_priority j ≡ true) × (had ≡ false → has ≡ true → CanBeReady j ready)
