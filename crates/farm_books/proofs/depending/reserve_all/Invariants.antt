use Rattle.std.proofs.Common.{◌≡◌, ◌++◌, drop, map}
use Rattle.farm_books.specs.Coming.{spare_for}
use Rattle.farm_books.proofs.depending.reserve_all.Given as goal

abbrev pub invariant-loop-depend : goal.invariant-loop-depend
invariant-loop-depend l =
    record {
      book : l.depends ≡ l.fn.depends;
      spares : l.spares ++ map spare_for (drop l.depend-index l.coming) ≡ map spare_for l.coming;
    }
