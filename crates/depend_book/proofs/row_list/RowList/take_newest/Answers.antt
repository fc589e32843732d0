use Rattle.std.proofs.Common.{◌≡◌, ◌∙◌, List, Some, None, cond, eqb, length, map, refl, sym, ap, subst, arith}
use Rattle.std.specs.List.{count_by}
use Rattle.std.proofs.lemmas.List.{length-map}
use Rattle.std.proofs.lemmas.Option.{none-some}
use Rattle.farm_types.specs.declared.depend.DependRow.{DependRow}
use Rattle.farm_types.specs.Rising.{IsRising}
use Rattle.depend_book.specs.declared.row_list.RowPlace.{RowPlace}
use Rattle.depend_book.specs.Rows.{AreChained, IsTaken, RowLists, WaitsInNone, emptied, emptied_by, flat, is_there, last_from, last_in, none_seen, place_key, rows_there}
use Rattle.depend_book.proofs.Chained.{leaves, none_waits}
use Rattle.depend_book.proofs.PlaceChanged.{rising_changed}
use Rattle.depend_book.proofs.RowsThere.{fewer_left, rows_count, rows_left}
use Rattle.depend_book.proofs.row_list.RowList.take_newest.Goals as goal

pub returns-in_default-clause-none : goal.returns-in_default-clause-none
returns-in_default-clause-none c =
    let job = c.args.job in
    let none : last_from none_seen c.self.inside.places.items job ≡ None =
    sym (c.self.invariant.places.last job) ∙ (ap (last_in c.self.inside.newest) (sym c.number_of-number.ensures) ∙ sym c.in_default.ensures) in
    subst (λ (r : RowLists). WaitsInNone job r.rows) c.self.view_is (none_waits job c.self.inside.places.items none_seen none)

pub overflow_sub-self : goal.overflow_sub-self
overflow_sub-self c =
    let xs = c.self.inside.places.items in
    let n = c.in-Some.depend in
    let job = c.args.job in
    let last : last_from none_seen xs job ≡ Some n =
    sym (c.self.invariant.places.last job) ∙ (ap (last_in c.self.inside.newest) (sym c.number_of-number.ensures) ∙ sym c.in-Some.ensures) in
    let left = leaves n job xs none_seen 1 c.self.inside.next c.self.invariant.rise c.self.invariant.places.chained last (λ e. none-some n e) in
    omega (arith, c.self.invariant.count, rows_count xs, fewer_left job n xs c.self.inside.next c.self.invariant.rise left.waits)

pub invariant_of-self : goal.invariant_of-self
invariant_of-self c =
    let xs = c.self.inside.places.items in
    let n = c.in-Some.depend in
    let job = c.args.job in
    let kept = c.self.invariant in
    let last : last_from none_seen xs job ≡ Some n =
    sym (kept.places.last job) ∙ (ap (last_in c.self.inside.newest) (sym c.number_of-number.ensures) ∙ sym c.in-Some.ensures) in
    let left = leaves n job xs none_seen 1 c.self.inside.next kept.rise kept.places.chained last (λ e. none-some n e) in
    let is = c.empty-older.ensures.items in
    let news = map (emptied_by n) xs in
    let same = c.note.ensures.known (λ e. none-some n (sym (ap flat e) ∙ sym c.in-Some.ensures)) in
    record {
      rise = subst (λ (ys : List RowPlace). IsRising place_key 1 ys c.self.inside.next) (sym is) (rising_changed place_key emptied (λ x. refl) n 1 xs c.self.inside.next kept.rise);
      places = record {
        chained = subst (AreChained none_seen) (sym is) left.chained;
        last = λ j.
            c.note.ensures.last j
            ∙ ((λ i. cond (eqb j (c.number_of-number.ensures i)) (c.empty-older.ensures.older i) (kept.places.last j i))
            ∙ (sym (left.lasts j) ∙ ap (λ (ys : List RowPlace). last_from none_seen ys j) (sym is)));
        fewer = omega (arith, kept.places.fewer, same, length-map xs (emptied_by n), ap (λ (ys : List RowPlace). length ys) is);
        room = omega (arith, kept.places.room, c.note.ensures.capacity);
      };
      count = omega (
        arith,
        kept.count,
        rows_count xs,
        fewer_left job n xs c.self.inside.next kept.rise left.waits,
        ap (λ (ds : List DependRow). length ds) (rows_left n xs),
        rows_count news,
        ap (count_by is_there) is,
      );
      count_within = omega (arith, kept.count_within);
      capacity = omega (arith, kept.capacity, c.empty-older.ensures.capacity);
    }

pub returns-clause-some : goal.returns-clause-some
returns-clause-some c =
    let xs = c.self.inside.places.items in
    let n = c.in-Some.depend in
    let job = c.args.job in
    let kept = c.self.invariant in
    let last : last_from none_seen xs job ≡ Some n =
    sym (kept.places.last job) ∙ (ap (last_in c.self.inside.newest) (sym c.number_of-number.ensures) ∙ sym c.in-Some.ensures) in
    let left = leaves n job xs none_seen 1 c.self.inside.next kept.rise kept.places.chained last (λ e. none-some n e) in
    let rows = ap rows_there c.empty-older.ensures.items ∙ rows_left n xs in
    subst (λ (r : RowLists). IsTaken job n r.rows (rows_there c.empty-older.new.places.items)) c.self.view_is
    (record {
      waits = left.waits;
      left = rows;
      fewer = omega (arith, ap (λ (ds : List DependRow). length ds) rows, fewer_left job n xs c.self.inside.next kept.rise left.waits);
    })
