-- Which jobs finish with an entry.
use Rattle.std.specs.Prelude.{ℕ, ◌≡◌, ◌==◌, ◌&&◌, ◌-◌, Bool, true, List, [], map, filter, count_by, nat_lt, slice_get, Option, None, Some, option_and_then}
use Rattle.farm_types.specs.declared.entry.Act.{Act}
use Rattle.farm_types.specs.declared.entry.Act.TheVariants as act
use Rattle.farm_types.specs.declared.rows.JobRow.{JobRow}
use Rattle.farm_types.specs.declared.slot_row.Frame.{Frame}
use Rattle.farm_types.specs.declared.slot_row.SlotRow.{SlotRow}
use Rattle.farm_types.specs.Farm.{Farm}
use Rattle.farm_types.specs.Jobs.{JobLists}
use Rattle.farm_types.specs.Operators.{is_left_of}
use Rattle.farm_types.specs.Step.{finishing}
use Rattle.depend_graph.specs.Trial.{is_at}
use Rattle.job_book.specs.Book.{has_frame, has_job}

-- the jobs that finish with an act, in the farm after what follows it
abbrev pub closing : Act → Farm → List ℕ
closing (act.Heard heard) f = finishing f
closing (act.KillJob job) f = finishing f
closing (act.EatFrame p) f = finishing f
closing other f = []

-- ---- by counts

-- how many frames of the job aren't done
abbrev pub left_in : ℕ → List SlotRow → ℕ
left_in job slots = count_by (is_left_of job) slots

-- the job of a frame, 0 where there is none
abbrev pub job_of : Option Frame → ℕ
job_of None = 0
job_of (Some x) = x.job

-- the job of the frame in the slot
abbrev pub job_in : List SlotRow → ℕ → ℕ
job_in slots slot = job_of (option_and_then (λ (s : SlotRow). s.frame) (slice_get slots slot))

-- the slot has a frame, whose job is there
pub record HasItsJob (b : JobLists) (slot : ℕ) : Type 0 where
  pub framed : has_frame b slot ≡ true
  pub owned : has_job b (job_in b.slots slot) ≡ true

-- frames are left, so many, and none is once so many more are done
abbrev pub ends_by : ℕ → ℕ → Bool
ends_by left more = nat_lt 0 left && left - more == 0

-- no frame of the job is left, once those in these slots are done that weren't
abbrev pub ends : List SlotRow → List ℕ → ℕ → Bool
ends slots done job = ends_by (left_in job slots) (count_by (is_at job) (map (job_in slots) done))

-- the numbers of such jobs, in order
abbrev pub finished_by : JobLists → List ℕ → List ℕ
finished_by b done = map (λ (j : JobRow). j.job) (filter (λ (j : JobRow). ends b.slots done j.job) b.jobs)
