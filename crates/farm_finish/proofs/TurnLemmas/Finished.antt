-- The books with the book of depends are the farm in which the jobs finished.
use Rattle.std.proofs.Common.{◌≡◌, ℕ, List, [], ◌∷◌, refl, ap, ◌∙◌}
use Rattle.farm_types.specs.declared.depend.MetRow.{MetRow}
use Rattle.farm_types.specs.declared.slot_row.SlotRow.{SlotRow}
use Rattle.farm_types.specs.Farm.{Farm}
use Rattle.farm_types.specs.Step.{finish_each, finish_one}
use Rattle.depend_book.specs.Book.{DependLists, IsBook, joined}
use Rattle.depend_book.proofs.Forgotten.{book_without}
use Rattle.depend_book.proofs.MarksLeft.{marks_left}
use Rattle.farm_books.specs.Books.{FarmBooks}
use Rattle.farm_finish.specs.Finishing.{all_finished, books_finished, depends_finished, depends_without, finished_books, finished_in}
use Rattle.farm_books.specs.Cleared.{undone}
use Rattle.farm_books.proofs.ClearedFlags.{count_same}

pub undone_book : (job : ℕ) (slots : List SlotRow) (b : DependLists) → IsBook b → IsBook (undone job slots b)
undone_book job slots b book =
    record {
      flags = count_same job slots b.graph.done ∙ book.flags;
      numbers = book.numbers;
      rows_are = book.rows_are;
      rise = book.rise;
      next_within = book.next_within;
      count = book.count;
      groups_within = book.groups_within;
    }

pub joined_one : (f : Farm) (b : DependLists) (job : ℕ) → IsBook b → joined (finished_books job f) (depends_without job f.slots b) ≡ finish_one job (joined f b)
joined_one f b job book =
    ap (λ (marks : List MetRow). record (joined (finished_books job f) (depends_without job f.slots b)) { met = marks }) (marks_left (undone job f.slots b) job (undone_book job f.slots b book))

pub book_after : (job : ℕ) (slots : List SlotRow) (b : DependLists) → IsBook b → IsBook (depends_without job slots b)
book_after job slots b book = book_without (undone job slots b) job (undone_book job slots b book)

pub joined_all : (jobs : List ℕ) (f : Farm) (b : DependLists) → IsBook b → joined (books_finished jobs f) (depends_finished jobs f b) ≡ finish_each jobs (joined f b)
joined_all [] f b book = refl
joined_all (job ∷ jobs) f b book =
    joined_all jobs (finished_books job f) (depends_without job f.slots b) (book_after job f.slots b book) ∙ ap (finish_each jobs) (joined_one f b job book)

-- the hosts are the same
pub finished_hosts : (jobs : List ℕ) (v : FarmBooks) → (all_finished jobs v).farm.hosts ≡ v.farm.hosts
finished_hosts [] v = refl
finished_hosts (job ∷ jobs) v = finished_hosts jobs (finished_in job v)

-- the books of a farm and the book of its depends, with the jobs finished in both
pub all_beside : (jobs : List ℕ) (f : Farm) (b : DependLists)
    → all_finished jobs (record { farm = joined f b; graph = b.graph }) ≡ record { farm = joined (books_finished jobs f) (depends_finished jobs f b); graph = (depends_finished jobs f b).graph }
all_beside [] f b = refl
all_beside (job ∷ jobs) f b = all_beside jobs (finished_books job f) (depends_without job f.slots b)
