use Rattle.std.proofs.Common.{◌≡◌, drop}
use Rattle.std.specs.List.{AllByRecursion}
use Rattle.farm_books.specs.Books.{with_farm}
use Rattle.farm_depends.specs.Follow.{IsMovable, put_blocked}
use Rattle.farm_depends.proofs.moving.block_all.Given as goal

abbrev pub invariant-loop-slot : goal.invariant-loop-slot
invariant-loop-slot l =
    record {
      movable : AllByRecursion (IsMovable l.books.farm.slots) (drop l.slot-index l.slots);
      put : with_farm l.books (record l.books.farm { slots = put_blocked l.raises (drop l.slot-index l.slots) l.books.farm.slots })
          ≡ with_farm l.fn.books (record l.fn.books.farm { slots = put_blocked l.raises l.slots l.fn.books.farm.slots });
    }
