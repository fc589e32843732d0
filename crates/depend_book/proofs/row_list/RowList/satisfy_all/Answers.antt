use Rattle.std.proofs.Common.{◌∙◌, List, length, sym, ap, subst, arith}
use Rattle.std.specs.List.{count_by}
use Rattle.farm_types.specs.Rising.{IsRising}
use Rattle.depend_book.specs.declared.row_list.RowPlace.{RowPlace}
use Rattle.depend_book.specs.Rows.{AreChained, RowLists, is_there, last_from, none_seen, place_key, rows_there}
use Rattle.depend_book.specs.Satisfied.{satisfied_all}
use Rattle.depend_book.proofs.Chained.{all_met_chained, all_met_lasts}
use Rattle.depend_book.proofs.RowsThere.{count_met, length_met, rising_met, rows_all_met}
use Rattle.depend_book.proofs.row_list.RowList.satisfy_all.Goals as goal

pub invariant_of-self : goal.invariant_of-self
invariant_of-self c =
    let xs = c.self.inside.places.items in
    let ns = c.args.depends.now in
    let is = c.satisfy_places.ensures.items in
    let kept = c.self.invariant in
    record {
      rise = subst (λ (ys : List RowPlace). IsRising place_key 1 ys c.self.inside.next) (sym is) (rising_met ns xs c.self.inside.next kept.rise);
      places = record {
        chained = subst (AreChained none_seen) (sym is) (all_met_chained ns none_seen xs kept.places.chained);
        last = λ job. kept.places.last job ∙ (sym (all_met_lasts ns none_seen xs job) ∙ ap (λ (ys : List RowPlace). last_from none_seen ys job) (sym is));
        fewer = omega (arith, kept.places.fewer, length_met ns xs, ap (λ (ys : List RowPlace). length ys) is);
        room = kept.places.room;
      };
      count = kept.count ∙ (sym (count_met ns xs) ∙ ap (count_by is_there) (sym is));
      count_within = kept.count_within;
      capacity = omega (arith, kept.capacity, c.satisfy_places.ensures.capacity);
    }

pub returns-clause-rows : goal.returns-clause-rows
returns-clause-rows c =
    ap rows_there c.satisfy_places.ensures.items ∙ (rows_all_met c.args.depends.now c.self.inside.places.items ∙ ap (λ (r : RowLists). satisfied_all c.args.depends.now r.rows) c.self.view_is)
