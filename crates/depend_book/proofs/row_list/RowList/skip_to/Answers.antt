use Rattle.std.proofs.Common.{◌≤◌, sym, subst}
use Rattle.depend_book.specs.Rows.{RowLists, place_key}
use Rattle.depend_book.proofs.Restored.{rising_below}
use Rattle.depend_book.proofs.row_list.RowList.skip_to.Goals as goal

pub invariant_of-self : goal.invariant_of-self
invariant_of-self c =
    let kept = c.self.invariant in
    let above = subst (λ (r : RowLists). r.next ≤ c.args.next) (sym c.self.view_is) c.requires in
    record {
      rise = rising_below place_key c.self.inside.places.items 1 c.self.inside.next c.args.next kept.rise above;
      places = kept.places;
      count = kept.count;
      count_within = kept.count_within;
      capacity = kept.capacity;
    }
