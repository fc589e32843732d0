-- The first rows are put back, and nothing but the depends changes.
use Rattle.std.proofs.Common.{◌≡◌, drop}
use Rattle.farm_rows.specs.Changes.{beside}
use Rattle.farm_books.specs.Books.{depends_of, with_depends}
use Rattle.farm_depends.specs.Restored.{IsRestoring}
use Rattle.farm_depends.proofs.restored.depends.restore_depends.Given as goal

abbrev pub invariant-loop-row : goal.invariant-loop-row
invariant-loop-row l =
    record {
      rest : l.restored ≡ with_depends l.fn.books (depends_of l.restored);
      so_far : IsRestoring (beside l.fn.books.farm l.rows l.met l.next) l.row-index (depends_of l.restored) (drop l.at l.met);
    }
