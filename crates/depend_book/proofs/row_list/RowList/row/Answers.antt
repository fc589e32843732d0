use Rattle.std.proofs.Common.{◌∙◌, List, eqb, ap}
use Rattle.std.specs.Prelude.{find}
use Rattle.std.specs.List.{position_or_len, slice_get}
use Rattle.farm_types.specs.declared.depend.DependRow.{DependRow}
use Rattle.depend_book.specs.declared.row_list.RowPlace.{RowPlace}
use Rattle.depend_book.specs.Rows.{RowLists, place_key, there_at}
use Rattle.depend_book.proofs.RowsThere.{row_found}
use Rattle.depend_book.proofs.row_list.RowList.row.Goals as goal

pub returns : goal.returns
returns c =
    let xs = c.self.inside.places.items in
    let n = c.args.depend in
    let is = c.place_of.ensures ∙ ap (position_or_len (λ (x : RowPlace). eqb (place_key x) n)) c.as_slice-2.ensures.value in
    c.row_at.ensures
    ∙ (ap (λ (ys : List RowPlace). there_at (slice_get ys c.place_of.result)) c.as_slice.ensures.value
    ∙ (ap (λ m. there_at (slice_get xs m)) is
    ∙ (row_found n 1 xs c.self.inside.next c.self.invariant.rise ∙ ap (λ (r : RowLists). find (λ (d : DependRow). eqb d.depend n) r.rows) c.self.view_is)))
