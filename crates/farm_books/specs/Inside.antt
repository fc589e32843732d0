-- The farm that the code's fields hold.
use Rattle.std.specs.Prelude.{◌≡◌, Bool, true, is_some}
use Rattle.std.specs.List.{list_all}
use Rattle.farm_types.specs.declared.slot_row.SlotRow.{SlotRow}
use Rattle.farm_types.specs.Farm.{Farm, for_any}
use Rattle.depend_book.specs.Book.{marks_of}
use Rattle.farm_books.specs.declared.books.Books.TheInside.{Inside}
use Rattle.farm_books.specs.Books.{FarmBooks}
use Rattle.farm_books.specs.Install.{procs_of}
use Rattle.farm_books.specs.Limits.{CountsRunning}

-- its books and counters
abbrev pub farm_of : Inside → Farm
farm_of a =
    record {
      shows = a.shows;
      allocs = a.allocs;
      subs = a.attempts.subs;
      limits = a.limits.limits;
      hosts = a.hosts;
      jobs = a.jobs.jobs;
      layers = a.jobs.layers;
      slots = a.jobs.slots;
      depends = a.depends.rows;
      met = marks_of a.depends.graph.depends;
      next_job = a.jobs.next_job;
      next_depend = a.depends.next;
      next_finish = a.jobs.next_finish;
      moment = a.moment;
      recorded = a.recorded;
    }

-- and the graph of its depends
abbrev pub books_of : Inside → FarmBooks
books_of a = record { farm = farm_of a; graph = a.depends.graph }

-- an attempt has its frame
abbrev pub is_framed : SlotRow → Bool
is_framed s = for_any s.proc (λ _. is_some s.frame)

-- the book of attempts has those of the slots, each has its frame, and of each limit the count is that of those that run in it
pub record KeepsAttempts (a : Inside) : Type 0 where
  pub attempts_are : a.attempts.procs ≡ procs_of a.jobs.slots
  pub framed : list_all is_framed a.jobs.slots ≡ true
  pub running : CountsRunning a.limits a.jobs.layers a.jobs.slots
