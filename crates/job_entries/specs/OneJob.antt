-- A job as the book holds it, and all of them as lists.
use Rattle.std.specs.Prelude.{ℕ, List}
use Rattle.farm_types.specs.declared.rows.JobRow.{JobRow}
use Rattle.farm_types.specs.declared.rows.LayerRow.{LayerRow}
use Rattle.job_entries.specs.declared.counts.Counts.{Counts}
use Rattle.job_index.specs.Places.{LayerPlaces}

-- a job's row, how many of its frames are in which state, its layers, and where the frames of each stand
pub record OneJob : Type 0 where
  pub row : JobRow
  pub counts : Counts
  pub layers : List LayerRow
  pub index : List LayerPlaces

-- the same of all jobs, one job after another, the next job's number, and the numbers that the places have, also those whose job left
pub record AllJobs : Type 0 where
  pub rows : List JobRow
  pub counts : List Counts
  pub layers : List LayerRow
  pub index : List LayerPlaces
  pub next : ℕ
  pub numbers : List ℕ
