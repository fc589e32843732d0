-- What the calls of the job book answer and change.
use Rattle.std.specs.Prelude.{◌≡◌, ℕ, ◌==◌, ◌&&◌, ◌+◌, Bool, not, is_some, List, [], ◌∷◌, ◌++◌, filter, option_map}
use Rattle.std.specs.Prelude.{option_and_then, sum_by, Option, None, Some, find, slice_get, nat_lt, bytes_eq, Result, Ok, Err, if◌then◌else◌}
use Rattle.farm_types.specs.declared.job.JobSpec.{JobSpec}
use Rattle.farm_types.specs.declared.rows.JobRow.{JobRow}
use Rattle.farm_types.specs.declared.slot_row.Frame.{Frame}
use Rattle.farm_types.specs.declared.slot_row.SlotRow.{SlotRow}
use Rattle.farm_types.specs.declared.states.FrameState.{FrameState}
use Rattle.farm_types.specs.declared.states.FrameState.TheVariants as frame_state
use Rattle.farm_types.specs.Farm.{for_some}
use Rattle.farm_types.specs.Jobs.{JobLists, frames_in, frames_of, job_refusal, job_row, layer_rows, place_frames}
use Rattle.job_entries.specs.declared.counts.Counts.{Counts}
pub use Rattle.job_entries.specs.Counting.{number_of}
pub use Rattle.job_entries.specs.Entries.{with_pause}
use Rattle.job_book.specs.declared.reading.frame_view.FrameView.{FrameView}
use Rattle.farm_types.specs.declared.fault.FarmFault.{FarmFault}
use Rattle.farm_types.specs.declared.fault.FarmFault.TheVariants as fault
use Rattle.job_book.specs.declared.placement.placing.Placing.{Placing}
use Rattle.job_book.specs.Lowest.{lowest_free}

-- no jobs, no slot used, and 1 the next job's number
abbrev pub no_jobs : JobLists
no_jobs = record { jobs = []; layers = []; slots = []; next_job = 1; next_finish = 1 }

-- ---- placing

-- where a job is placed: its number and show, its layers' limits, the lowest free slots, one for each of its frames, and how many frames it has
abbrev pub placing_of : JobLists → ℕ → List (Option ℕ) → JobSpec → Placing
placing_of b show limits spec =
    record {
      job = b.next_job;
      show = show;
      limits = limits;
      slots = lowest_free 0 b.slots (frames_in spec.layers);
      frames = frames_in spec.layers;
    }

-- the place of a job that isn't refused, or exactly its refusal; out of memory needs no cause
abbrev pub Checks : JobLists → ℕ → List (Option ℕ) → JobSpec → Result Placing FarmFault → Type 0
Checks b show limits spec (Ok placing) = (job_refusal b spec ≡ None) × (placing ≡ placing_of b show limits spec)
Checks b show limits spec (Err (fault.Refused why)) = job_refusal b spec ≡ Some why
Checks b show limits spec (Err fault.NoMemory) = Unit {0}

-- the lists with the job of a spec, whose name no job has, its layers with these limits
abbrev pub with_new_job : JobLists → ℕ → List (Option ℕ) → JobSpec → JobLists
with_new_job b show limits spec =
    record {
      jobs = b.jobs ++ job_row b.next_job show spec ∷ [];
      layers = b.layers ++ layer_rows b.next_job limits 0 spec.layers;
      slots = place_frames b.slots (frames_of b.next_job 0 spec.layers);
      next_job = b.next_job + 1;
      next_finish = b.next_finish;
    }

-- ---- changes of one slot

-- whether there is a frame in the slot
abbrev pub has_frame : JobLists → ℕ → Bool
has_frame b slot = for_some (slice_get b.slots slot) (λ (s : SlotRow). is_some s.frame)

-- the frame stands where the other one stood: it differs in its state and its retries alone
abbrev pub IsSameFrame : Option Frame → Option Frame → Type 0
IsSameFrame (Some x) (Some y) = y ≡ record x { state = y.state; retries = y.retries }
IsSameFrame x y = ⊥

-- the slot is there, and the row has its frame
abbrev pub KeepsFrame : Option SlotRow → SlotRow → Type 0
KeepsFrame None row = ⊥
KeepsFrame (Some old) row = IsSameFrame old.frame row.frame

-- ---- what is read

-- the jobs without the one of that number, where one is named
abbrev pub without_job : Option ℕ → List JobRow → List JobRow
without_job None jobs = jobs
without_job (Some job) jobs = filter (λ (j : JobRow). not (j.job == job)) jobs

-- the number of the first job of that name
abbrev pub job_named : JobLists → List ℕ → Option ℕ
job_named b name = option_map (λ (j : JobRow). j.job) (find (λ j. bytes_eq j.name name) b.jobs)

-- the number of the first job with a number above that one: numbers rise, so it is the least
abbrev pub job_after : JobLists → ℕ → Option ℕ
job_after b after = option_map (λ (j : JobRow). j.job) (find (λ j. nat_lt after j.job) b.jobs)

abbrev pub frame_view : ℕ → Frame → FrameView
frame_view version x =
    record { job = x.job; layer = x.layer; position = x.position; number = x.number; state = x.state; version = version; retries = x.retries }

-- the frame in the slot
abbrev pub frame_at : JobLists → ℕ → Option FrameView
frame_at b slot = option_and_then (λ (s : SlotRow). option_map (frame_view s.version) s.frame) (slice_get b.slots slot)

-- the state of the frame in the slot, and the slot's version, which is 0 where it was never used
abbrev pub state_in : Option SlotRow → Option FrameState × ℕ
state_in None = (None, 0)
state_in (Some s) = (option_map (λ (x : Frame). x.state) s.frame, s.version)

abbrev pub state_at : JobLists → ℕ → Option FrameState × ℕ
state_at b slot = state_in (slice_get b.slots slot)

-- ---- counts

abbrev pub is_in : ℕ → FrameState → Frame → Bool
is_in job state x = x.job == job && number_of x.state == number_of state

-- how many of the job's frames are in that state
abbrev pub count_in : ℕ → FrameState → List SlotRow → ℕ
count_in job state slots = sum_by (λ (s : SlotRow). if for_some s.frame (is_in job state) then 1 else 0) slots

abbrev pub counts_of : ℕ → List SlotRow → Counts
counts_of job slots =
    record {
      waiting = count_in job frame_state.Waiting slots;
      setup = count_in job frame_state.Setup slots;
      running = count_in job frame_state.Running slots;
      succeeded = count_in job frame_state.Succeeded slots;
      depend = count_in job frame_state.Depend slots;
      dead = count_in job frame_state.Dead slots;
      eaten = count_in job frame_state.Eaten slots;
    }

-- whether there is a job of that number
abbrev pub has_job : JobLists → ℕ → Bool
has_job b job = is_some (find (λ j. j.job == job) b.jobs)
