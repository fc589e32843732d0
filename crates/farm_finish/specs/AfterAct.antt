-- The books beside the farm in which jobs finish, and what the changes of rows of one job are.
use Rattle.std.specs.Prelude.{ℕ, ◌≡◌, ◌==◌, true, false, List, ◌++◌, find, slice_get, Option, Some}
use Rattle.std.specs.List.{list_any}
use Rattle.farm_types.specs.declared.rows.JobRow.{JobRow}
use Rattle.farm_types.specs.declared.slot_row.SlotRow.{SlotRow}
use Rattle.farm_types.specs.Farm.{Farm, for_some, layers_of}
use Rattle.farm_types.specs.Finish.{count_where, has_succeeded, is_frame_of, was_eaten}
use Rattle.farm_types.specs.Jobs.{JobLists}
use Rattle.farm_types.specs.Operators.{is_left_of}
use Rattle.farm_rows.specs.Changes.{is_mark}
use Rattle.farm_rows.specs.declared.row_change.RowChange.{RowChange}
use Rattle.depend_graph.specs.Graph.{Watched, groups_at}
use Rattle.depend_book.specs.Book.{DependLists, waits_in_one}
use Rattle.farm_finish.specs.Gone.{job_gone, job_put, rows_gone, version_in}

-- The books before an entry (`b`, `d`) and the slots as its act leaves them say what the farm is in which jobs finish (`f`): its jobs and layers, whose
-- frame a slot has, the versions of the slots of a job that ends, how many frames were eaten or succeeded, which depends a job waits in, and of which
-- groups it has marks.
pub record IsAfter (b : JobLists) (acted : List SlotRow) (d : DependLists) (f : Farm) : Type 0 where
  pub jobs : f.jobs ≡ b.jobs
  pub layers : f.layers ≡ b.layers
  pub next_finish : f.next_finish ≡ b.next_finish
  pub frames : (job n : ℕ) → for_some (slice_get f.slots n) (is_frame_of job) ≡ for_some (slice_get b.slots n) (is_frame_of job)
  pub versions : (job : ℕ) → list_any (is_left_of job) f.slots ≡ false → (n : ℕ) → for_some (slice_get f.slots n) (is_frame_of job) ≡ true
      → version_in (slice_get acted n) ≡ version_in (slice_get f.slots n)
  pub eaten : (job : ℕ) → count_where job was_eaten f.slots ≡ count_where job was_eaten acted
  pub succeeded : (job : ℕ) → count_where job has_succeeded f.slots ≡ count_where job has_succeeded acted
  pub waits : (job n : ℕ) → waits_in_one job f.depends n ≡ waits_in_one job d.rows n
  pub marks : (n position : ℕ) → list_any (is_mark n position) f.met ≡ true
      → list_any (λ (w : Watched). w.group.position == position) (groups_at d.graph.depends n) ≡ true

-- the changes of the rows of one job that finishes with that number, as another one leaves
pub record FinishesJob (b : JobLists) (acted : List SlotRow) (d : DependLists) (finish : ℕ) (gone : Option ℕ) (job : ℕ) (cs : List RowChange) : Type 0 where
  pub frames : List ℕ
  pub depends : List ℕ
  pub frames_are : (n : ℕ) → list_any (λ m. m == n) frames ≡ for_some (slice_get b.slots n) (is_frame_of job)
  pub depends_are : (n : ℕ) → list_any (λ m. m == n) depends ≡ waits_in_one job d.rows n
  pub items : (j : JobRow) → find (λ k. k.job == job) b.jobs ≡ Some j
      → cs ≡ job_put acted finish j ++ (job_gone gone ++ rows_gone acted (groups_at d.graph.depends) job (layers_of b.layers job) frames depends)
