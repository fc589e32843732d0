-- The flags of the first slots are set, and nothing but the depends changes.
use Rattle.std.proofs.Common.{◌≡◌}
use Rattle.farm_books.specs.Books.{depends_of, with_depends}
use Rattle.farm_depends.specs.Restored.{IsFlagging}
use Rattle.farm_depends.proofs.restored.depends.flag_all.Given as goal

abbrev pub invariant-loop-place : goal.invariant-loop-place
invariant-loop-place l =
    record {
      rest : l.books ≡ with_depends l.fn.books (depends_of l.books);
      flags : IsFlagging l.fn.books.farm.slots l.place (depends_of l.books);
    }
