use Rattle.std.proofs.Common.{◌∙◌, List, length, map, sym, ap, subst, arith}
use Rattle.std.proofs.lemmas.List.Sums.{length-filter}
use Rattle.farm_types.specs.Rising.{IsRising}
use Rattle.depend_book.specs.declared.row_list.RowPlace.{RowPlace}
use Rattle.depend_book.specs.Rows.{AreChained, is_there, last_from, none_seen, place_key, row_here}
use Rattle.depend_book.proofs.Chained.{filter_chained}
use Rattle.depend_book.proofs.RowsThere.{filter_again, rising_there}
use Rattle.depend_book.proofs.room.make_room.Goals as goal

pub note_all-requires-clause-few : goal.note_all-requires-clause-few
note_all-requires-clause-few c =
    omega (
      arith,
      ap (λ (xs : List RowPlace). length xs) c.as_slice.ensures.value,
      ap (λ (xs : List RowPlace). length xs) c.leave_out.ensures.items,
      length-filter is_there c.args.places.now.items,
      c.requires.few,
    )

pub returns-clause-rows : goal.returns-clause-rows
returns-clause-rows c = ap (map row_here) (filter_again c.args.places.now.items c.leave_out.new.places.items c.leave_out.ensures.items)

pub returns-clause-count : goal.returns-clause-count
returns-clause-count c =
    let xs = c.args.places.now.items in
    let news = c.leave_out.new.places.items in
    sym (length-filter is_there news) ∙ (ap (λ (ys : List RowPlace). length ys) (filter_again xs news c.leave_out.ensures.items) ∙ length-filter is_there xs)

pub returns-clause-rise : goal.returns-clause-rise
returns-clause-rise c = λ high rise. subst (λ (xs : List RowPlace). IsRising place_key 1 xs high) (sym c.leave_out.ensures.items) (rising_there 1 c.args.places.now.items high rise)

pub returns-clause-places : goal.returns-clause-places
returns-clause-places c =
    let xs = c.args.places.now.items in
    record {
      chained = subst (AreChained none_seen) (sym c.leave_out.ensures.items) (filter_chained none_seen xs c.requires.places.chained);
      last = λ job. c.note_all.ensures.last job ∙ ap (λ (ys : List RowPlace). last_from none_seen ys job) c.as_slice.ensures.value;
      fewer = omega (arith, c.note_all.ensures.fewer, ap (λ (ys : List RowPlace). length ys) c.as_slice.ensures.value);
      room = c.note_all.ensures.room;
    }

pub returns-clause-room : goal.returns-clause-room
returns-clause-room c = omega (arith, ap (λ (ys : List RowPlace). length ys) c.leave_out.ensures.items, length-filter is_there c.args.places.now.items, c.requires.few)
