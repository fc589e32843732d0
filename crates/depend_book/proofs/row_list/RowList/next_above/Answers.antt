use Rattle.std.proofs.Common.{◌∙◌, List, drop, ltb, option_map, ap}
use Rattle.std.specs.Prelude.{find}
use Rattle.std.specs.List.{position_or_len}
use Rattle.farm_types.specs.declared.depend.DependRow.{DependRow}
use Rattle.farm_types.specs.Rising.{depend_key}
use Rattle.depend_book.specs.declared.row_list.RowPlace.{RowPlace}
use Rattle.depend_book.specs.Rows.{RowLists, is_there, place_key}
use Rattle.depend_book.proofs.RowsThere.{next_found}
use Rattle.depend_book.proofs.row_list.RowList.next_above.Goals as goal

pub returns : goal.returns
returns c =
    let xs = c.self.inside.places.items in
    let after = c.args.after in
    let is = c.place_above.ensures ∙ ap (position_or_len (λ (x : RowPlace). ltb after (place_key x))) c.as_slice-2.ensures.value in
    c.first_there.ensures
    ∙ (ap (λ (ys : List RowPlace). option_map place_key (find is_there (drop c.place_above.result ys))) c.as_slice.ensures.value
    ∙ (ap (λ m. option_map place_key (find is_there (drop m xs))) is
    ∙ (next_found after 1 xs c.self.inside.next c.self.invariant.rise ∙ ap (λ (r : RowLists). option_map depend_key (find (λ (d : DependRow). ltb after d.depend) r.rows)) c.self.view_is)))
