-- The books after jobs that finish, and what they need of the books.
use Rattle.std.specs.Prelude.{ℕ, ◌≡◌, true, List, [], ◌∷◌}
use Rattle.std.specs.List.{list_all}
use Rattle.farm_types.specs.declared.slot_row.SlotRow.{SlotRow}
use Rattle.farm_types.specs.Farm.{Farm}
use Rattle.farm_types.specs.Finish.{with_finished}
use Rattle.farm_types.specs.Jobs.{JobLists}
use Rattle.farm_types.specs.Kept.{EachOnce, is_kept_slot}
use Rattle.farm_types.specs.Step.{lists_of, with_lists}
use Rattle.farm_books.specs.Books.{FarmBooks, depends_of, with_depends, with_farm}
use Rattle.farm_books.specs.Cleared.{undone}
use Rattle.farm_books.specs.Finish.{CanFinish}
use Rattle.depend_book.specs.Book.{DependLists, without_waiter_in}

-- ---- the books

-- the books with the job finished
abbrev pub finished_books : ℕ → Farm → Farm
finished_books job f = with_lists f (with_finished job (lists_of f))

-- with the jobs finished in turn
abbrev pub books_finished : List ℕ → Farm → Farm
books_finished [] f = f
books_finished (job ∷ jobs) f = books_finished jobs (finished_books job f)

-- ---- the book of depends

-- no frame of the job is done, nor is there a depend in which one waits
abbrev pub depends_without : ℕ → List SlotRow → DependLists → DependLists
depends_without job slots b = without_waiter_in (undone job slots b) job

-- the book of depends with the jobs finished in turn, beside those books
abbrev pub depends_finished : List ℕ → Farm → DependLists → DependLists
depends_finished [] f b = b
depends_finished (job ∷ jobs) f b = depends_finished jobs (finished_books job f) (depends_without job f.slots b)

-- ---- both

-- the job finished: its layers and the depends in which it waits gone, and none of its frames done
abbrev pub finished_in : ℕ → FarmBooks → FarmBooks
finished_in job v = with_depends (with_farm v (finished_books job v.farm)) (depends_without job v.farm.slots (depends_of v))

-- the jobs finished in turn
abbrev pub all_finished : List ℕ → FarmBooks → FarmBooks
all_finished [] v = v
all_finished (job ∷ jobs) v = all_finished jobs (finished_in job v)

-- ---- what they need

-- the job may finish, each frame has its layer, and each stands in one slot
pub record MayFinish (b : JobLists) (job : ℕ) : Type 0 where
  pub can : CanFinish b job
  pub slots_kept : list_all (is_kept_slot b.layers) b.slots ≡ true
  pub frames_once : EachOnce b.slots

-- each may at its turn
abbrev pub CanFinishAll : JobLists → List ℕ → Type 0
CanFinishAll b [] = Unit {0}
CanFinishAll b (job ∷ jobs) = MayFinish b job × CanFinishAll (with_finished job b) jobs
