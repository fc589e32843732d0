use Rattle.std.proofs.Common.{◌∙◌, ◌+◌, List, false, length, refl, sym, ap, subst, arith}
use Rattle.std.specs.List.{count_by}
use Rattle.farm_types.specs.Rising.{IsRising}
use Rattle.depend_book.specs.declared.row_list.RowPlace.{RowPlace}
use Rattle.depend_book.specs.Rows.{RowLists, is_there, last_in, place_key}
use Rattle.depend_book.proofs.RowsThere.{count_more, rising_last, rows_count}
use Rattle.depend_book.proofs.row_list.RowList.push.Goals as goal

pub make_room-requires-clause-few : goal.make_room-requires-clause-few
make_room-requires-clause-few c = omega (arith, rows_count c.self.inside.places.items, ap (λ (r : RowLists). length r.rows) c.self.view_is, c.requires.room)

pub invariant_of-self : goal.invariant_of-self
invariant_of-self c =
    let xs = c.make_room.new.places.items in
    let x : RowPlace = record { row = c.args.row; older = last_in c.make_room.new.newest c.args.row.waiter.job; gone = false } in
    let number = c.requires.number ∙ ap (λ (r : RowLists). r.next) (sym c.self.view_is) in
    record {
      rise = subst (λ (ys : List RowPlace). IsRising place_key 1 ys (c.self.inside.next + 1)) (sym c.push_place.ensures.items) (rising_last 1 xs c.self.inside.next x (c.make_room.ensures.rise c.self.inside.next c.self.invariant.rise) number);
      places = c.push_place.ensures.places;
      count = omega (arith, c.self.invariant.count, c.make_room.ensures.count, count_more xs x refl, ap (count_by is_there) c.push_place.ensures.items);
      count_within = omega (arith, c.self.invariant.count, rows_count c.self.inside.places.items, ap (λ (r : RowLists). length r.rows) c.self.view_is, c.requires.room);
      capacity = omega (arith, c.push_place.ensures.capacity, c.make_room.ensures.capacity, c.self.invariant.capacity);
    }
