-- The finished jobs, as the book keeps them: by keys that rise.
use Rattle.std.specs.Prelude.{ℕ, ◌≡◌, ◌≤◌, ◌&&◌, ◌==◌, ◌+◌, ◌*◌, Bool, true, not, List, map, filter, length, nat_eq, nat_le}
use Rattle.std.specs.Prelude.{nat_lt, Option, None, slice_get, if◌then◌else◌}
use Rattle.std.specs.List.{IsDistinct, list_all, list_any}
use Rattle.farm_types.specs.declared.rows.JobRow.{JobRow}
use Rattle.farm_types.specs.declared.rows.LayerRow.{LayerRow}
use Rattle.farm_types.specs.Finish.{finished_row, freed_row, is_finished}
use Rattle.farm_types.specs.Jobs.{JobLists}
use Rattle.farm_types.specs.Kept.{finish_of, has_its_finish, is_of_pending, is_pending_job}
use Rattle.farm_types.specs.declared.limits.TheConstants.{MOST_FINISHED}
use Rattle.job_index.specs.Keys.{job_of, sorted}
use Rattle.job_index.specs.declared.limits.TheConstants.{MOST_JOBS}
use Rattle.job_index.specs.declared.ready_jobs.TheConstants.{JOB_NUMBERS}

-- keys rise by the number of the finish, and then by the job's
abbrev pub finish_key : JobRow → ℕ
finish_key j = j.finish * JOB_NUMBERS + j.job

-- a finish within the numbers of jobs, since no more jobs finish than there were
abbrev pub has_finish : JobRow → Bool
has_finish j = nat_lt j.finish JOB_NUMBERS

-- the numbers of the finished jobs, in the order of their finish
abbrev pub finished_of : List JobRow → List ℕ
finished_of jobs = map job_of (sorted (map finish_key (filter is_finished jobs)))

-- of finished jobs in that order, more than are kept, the first one, which leaves
abbrev pub leaver : List ℕ → Option ℕ
leaver order = if nat_lt MOST_FINISHED (length order) then slice_get order 0 else None

-- of finished jobs in that order, as many as are kept, the first one, which leaves before one more finishes
abbrev pub first_of_full : List ℕ → Option ℕ
first_of_full order = if nat_le MOST_FINISHED (length order) then slice_get order 0 else None

-- the keys of the finished jobs
pub record KeepsFinished (jobs : List JobRow) (keys : List ℕ) : Type 0 where
  pub keys_are : keys ≡ sorted (map finish_key (filter is_finished jobs))
  pub within : list_all has_finish jobs ≡ true

-- Each finished job has a number of its own below that of the next finish, for each pending job one is left, and no more are finished than are kept.
pub record KeepsFinishes (jobs : List JobRow) (next_job next_finish : ℕ) : Type 0 where
  pub from : 1 ≤ next_finish
  pub left : next_finish + length (filter is_pending_job jobs) ≤ next_job
  pub numbered : list_all (has_its_finish next_finish) jobs ≡ true
  pub differ : IsDistinct nat_eq (map finish_of (filter is_finished jobs))
  pub few : length (filter is_finished jobs) ≤ MOST_FINISHED

-- the lists with that job finished beside all that are
abbrev pub with_one_finished : ℕ → JobLists → JobLists
with_one_finished job b =
    record {
      jobs = map (λ (j : JobRow). if j.job == job then finished_row b.slots b.next_finish j else j) b.jobs;
      layers = filter (λ (l : LayerRow). not (l.job == job)) b.layers;
      slots = map (freed_row job) b.slots;
      next_job = b.next_job;
      next_finish = b.next_finish + 1;
    }

-- the jobs without the one of that number, where it isn't pending
abbrev pub without_done : ℕ → List JobRow → List JobRow
without_done job jobs = if is_of_pending jobs job then jobs else filter (λ (j : JobRow). not (j.job == job)) jobs

-- the key isn't there, and one more fits
abbrev pub can_put : ℕ → List ℕ → Bool
can_put key keys = not (list_any (λ (k : ℕ). k == key) keys) && nat_lt (length keys) MOST_JOBS
