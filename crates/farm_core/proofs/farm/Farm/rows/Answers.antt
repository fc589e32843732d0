use Rattle.std.proofs.Common.{rules, ◌≡◌, ◌∙◌, ◌∷◌, ◌++◌, [], List, true, ap, sym}
use Rattle.farm_rows.specs.declared.farm_row.FarmRow.{FarmRow}
use Rattle.farm_rows.specs.declared.farm_row.FarmRow.TheVariants as row
use Rattle.farm_rows.specs.Rows.{head_row, rows_of}
use Rattle.farm_books.specs.Books.{depends_of}
use Rattle.farm_books.proofs.WholeBooks.{whole_farm}
use Rattle.farm_core.proofs.PushedAll.{all_pushed}
use Rattle.farm_core.proofs.farm.Farm.rows.Goals as goal

pub returns : goal.returns
returns c =
    let v = c.self.inside.books in
    let f = v.farm in
    let b = depends_of v in
    let same = whole_farm v c.self.invariant in
    let told : c.is_recorded.result ≡ true = search rules in
    let head = c.head.result in
    let first = c.in_ok-push.ensures.items ∙ ap (λ (rows : List FarmRow). rows ++ row.Head head ∷ []) c.new-rows.ensures.items in
    c.from_vec.ensures
    ∙ (all_pushed f b head c.push.new.self.items c.push_rows.new.rows.items c.push_depends.new.rows.items c.push_limits.new.rows.items (c.head.ensures ∙ ap head_row (sym same))
    (sym c.is_recorded.ensures ∙ told) first c.in_ok-push_rows.ensures c.in_ok-push_depends.ensures c.in_ok-push_limits.ensures
    ∙ (ap rows_of same ∙ ap rows_of c.self.view_is))
