use Rattle.std.proofs.Common.{◌≡◌, map}
use Rattle.std.specs.Vec.Iter.{into_iter_items}
use Rattle.farm_books.specs.Coming.{CanAddAll, spare_for, with_new_all}
use Rattle.farm_books.proofs.depending.add_all.Given as goal

abbrev pub invariant-loop-depend : goal.invariant-loop-depend
invariant-loop-depend l =
    record {
      reserved : into_iter_items l.spares ≡ map spare_for (into_iter_items l.depend-iterator);
      can : CanAddAll l.depends (into_iter_items l.depend-iterator);
      put : with_new_all l.depends (into_iter_items l.depend-iterator) ≡ with_new_all l.fn.depends l.fn.coming;
    }
