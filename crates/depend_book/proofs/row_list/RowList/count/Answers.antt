use Rattle.std.proofs.Common.{◌∙◌, length, sym, ap}
use Rattle.depend_book.specs.Rows.{RowLists}
use Rattle.depend_book.proofs.RowsThere.{rows_count}
use Rattle.depend_book.proofs.row_list.RowList.count.Goals as goal

pub returns : goal.returns
returns c = c.self.invariant.count ∙ (sym (rows_count c.self.inside.places.items) ∙ ap (λ (r : RowLists). length r.rows) c.self.view_is)
