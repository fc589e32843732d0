-- Jobs whose frames are all done finish: their layers and the depends in which they wait go, and their slots become free.
use Rattle.std.specs.Prelude.{ℕ, ◌==◌, ◌&&◌, ◌||◌, ◌+◌, Bool, true, false, not, List, map, filter, length, sum_by, None, nat_le, nat_lt, if◌then◌else◌}
use Rattle.std.specs.List.{list_all, list_any}
use Rattle.farm_types.specs.declared.depend.DependRow.{DependRow}
use Rattle.farm_types.specs.declared.depend.MetRow.{MetRow}
use Rattle.farm_types.specs.declared.rows.JobRow.{JobRow}
use Rattle.farm_types.specs.declared.rows.LayerRow.{LayerRow}
use Rattle.farm_types.specs.declared.slot_row.Frame.{Frame}
use Rattle.farm_types.specs.declared.slot_row.SlotRow.{SlotRow}
use Rattle.farm_types.specs.declared.states.FrameState.{FrameState}
use Rattle.farm_types.specs.declared.states.FrameState.TheVariants as frame_state
use Rattle.farm_types.specs.declared.states.JobState.TheVariants as job_state
use Rattle.farm_types.specs.Booking.{is_pending}
use Rattle.farm_types.specs.Farm.{for_some}
use Rattle.farm_types.specs.Jobs.{JobLists}
use Rattle.farm_types.specs.Operators.{is_left_of}
use Rattle.farm_types.specs.Settle.{raised}
use Rattle.farm_types.specs.declared.limits.TheConstants.{MOST_FINISHED}

-- ---- the lists of jobs

-- the slot has a frame of the job
abbrev pub is_frame_of : ℕ → SlotRow → Bool
is_frame_of job s = for_some s.frame (λ (x : Frame). x.job == job)

-- how many of the job's frames are in a state of these
abbrev pub count_where : ℕ → (FrameState → Bool) → List SlotRow → ℕ
count_where job test slots = sum_by (λ (s : SlotRow). if for_some s.frame (λ (x : Frame). x.job == job && test x.state) then 1 else 0) slots

abbrev pub has_succeeded : FrameState → Bool
has_succeeded frame_state.Succeeded = true
has_succeeded other = false

abbrev pub was_eaten : FrameState → Bool
was_eaten frame_state.Eaten = true
was_eaten other = false

-- the job, finished by that number, with how many of its frames succeeded and were eaten; all else stays
abbrev pub finished_row : List SlotRow → ℕ → JobRow → JobRow
finished_row slots finish j =
    record j { state = job_state.Finished; finish = finish; eaten = count_where j.job was_eaten slots; succeeded = count_where j.job has_succeeded slots }

-- the slot without a frame of the job, one version later
abbrev pub freed_row : ℕ → SlotRow → SlotRow
freed_row job s = if is_frame_of job s then record { version = raised s.version; frame = None; proc = None } else s

abbrev pub is_finished : JobRow → Bool
is_finished j = not (is_pending j.state)

-- of the finished jobs the one that finished first
abbrev pub is_first_finished : List JobRow → JobRow → Bool
is_first_finished jobs j = is_finished j && list_all (λ (k : JobRow). is_pending k.state || nat_le j.finish k.finish) jobs

-- where more are finished than are kept, the one that finished first goes
abbrev pub cut_finished : List JobRow → List JobRow
cut_finished jobs = if nat_lt MOST_FINISHED (length (filter is_finished jobs)) then filter (λ j. not (is_first_finished jobs j)) jobs else jobs

-- the lists with that job finished: its layers go, and its slots are free
abbrev pub with_finished : ℕ → JobLists → JobLists
with_finished job b =
    record {
      jobs = cut_finished (map (λ (j : JobRow). if j.job == job then finished_row b.slots b.next_finish j else j) b.jobs);
      layers = filter (λ (l : LayerRow). not (l.job == job)) b.layers;
      slots = map (freed_row job) b.slots;
      next_job = b.next_job;
      next_finish = b.next_finish + 1;
    }

-- ---- depends

-- a frame of the job waits in the depend
abbrev pub waits_by : ℕ → DependRow → Bool
waits_by job d = d.waiter.job == job

-- the depends in which the job doesn't wait
abbrev pub without_waiter : ℕ → List DependRow → List DependRow
without_waiter job depends = filter (λ d. not (waits_by job d)) depends

-- the marks of these depends
abbrev pub marks_of : List DependRow → List MetRow → List MetRow
marks_of depends met = filter (λ (m : MetRow). list_any (λ (d : DependRow). d.depend == m.depend) depends) met

-- ---- all jobs

-- a pending job of which no frame is left
abbrev pub finishes : List SlotRow → JobRow → Bool
finishes slots j = is_pending j.state && not (list_any (is_left_of j.job) slots)
