-- Changes of rows that are added for one job.
use Rattle.std.specs.Prelude.{ℕ, ◌≡◌, ◌==◌, Bool, List, ◌++◌, map, slice_get, Option}
use Rattle.std.specs.List.{list_any}
use Rattle.farm_types.specs.declared.slot_row.SlotRow.{SlotRow}
use Rattle.farm_types.specs.Farm.{for_some}
use Rattle.farm_types.specs.Finish.{is_frame_of}
use Rattle.farm_types.specs.Jobs.{JobLists}
use Rattle.farm_rows.specs.declared.row_change.RowChange.{RowChange}
use Rattle.depend_book.specs.Book.{DependLists}
use Rattle.farm_finish.specs.AfterAct.{FinishesJob}
use Rattle.farm_finish.specs.Versions.{freed_by}

-- the slot has a frame of the job
abbrev pub is_of_job : List SlotRow → ℕ → ℕ → Bool
is_of_job slots job n = for_some (slice_get slots n) (is_frame_of job)

-- the slots that pass are free, each once or more
pub record AddsFrames (slots : List SlotRow) (over : ℕ → Option ℕ) (test : ℕ → Bool) (olds news : List RowChange) : Type 0 where
  pub frames : List ℕ
  pub frames_are : (n : ℕ) → list_any (λ m. m == n) frames ≡ test n
  pub items : news ≡ olds ++ map (freed_by slots over) frames

-- the changes of one job are added
abbrev pub AddsJob : JobLists → List SlotRow → DependLists → ℕ → Option ℕ → ℕ → List RowChange → List RowChange → Type 0
AddsJob b acted d finish gone job olds news = (cs : List RowChange) × (news ≡ olds ++ cs) × FinishesJob b acted d finish gone job cs
