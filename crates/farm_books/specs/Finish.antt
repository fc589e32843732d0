-- What a job needs of the rows that stand there, so that it may finish.
use Rattle.std.specs.Prelude.{ℕ, ◌≡◌, ◌&&◌, Bool, true, not, is_some}
use Rattle.std.specs.List.{list_all}
use Rattle.farm_types.specs.declared.slot_row.SlotRow.{SlotRow}
use Rattle.farm_types.specs.declared.states.FrameState.TheVariants as frame_state
use Rattle.farm_types.specs.Finish.{is_frame_of}
use Rattle.farm_types.specs.Jobs.{JobLists}
use Rattle.farm_types.specs.Kept.{is_of_pending}
use Rattle.job_book.specs.Book.{count_in}

-- the slot has no frame of the job with an attempt
abbrev pub has_ended : ℕ → SlotRow → Bool
has_ended job s = not (is_frame_of job s && is_some s.proc)

-- the job is pending, and no frame of it waits to be booked or has an attempt
pub record CanFinish (b : JobLists) (job : ℕ) : Type 0 where
  pub pending : is_of_pending b.jobs job ≡ true
  pub none_waits : count_in job frame_state.Waiting b.slots ≡ 0
  pub none_live : list_all (has_ended job) b.slots ≡ true
