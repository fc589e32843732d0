use Rattle.std.proofs.Common.{◌≡◌, ◌∙◌, ◌++◌, map, ap}
use Rattle.std.proofs.lemmas.Result.{on_ok_weaker}
use Rattle.farm_types.specs.Rising.{depend_key}
use Rattle.depend_book.specs.Book.{DependLists}
use Rattle.farm_books.specs.Books.{depends_of}
use Rattle.farm_core.specs.AllRows.{marks_told, rows_told}
use Rattle.farm_core.proofs.PushedAll.{depends_pushed}
use Rattle.farm_core.proofs.rows.push_depends.Goals as goal

pub returns : goal.returns
returns c =
    let v = c.args.books.now in
    let old = c.args.rows.now.items in
    let one = c.push_rows_of.new.rows.items in
    let both = c.push_marks_of.new.rows.items in
    let own = c.depends-depends.ensures in
    let ns = c.as_slice.result.now in
    let ms = c.as_slice-2.result.now in
    let numbers = c.in_ok-numbers.ensures ∙ ap (λ (b : DependLists). map depend_key b.rows) own in
    let rows = c.in_ok-push_rows_of.ensures ∙ ap (λ (b : DependLists). old ++ rows_told b ns) own in
    on_ok_weaker c.push_marks_of.result
    (λ (is : both ≡ one ++ marks_told c.depends-depends.result.now.graph.depends ms).
    depends_pushed v.farm (depends_of v) c.kept.ensures.book c.requires.fits old one both ns ms (c.as_slice.ensures ∙ numbers) (c.as_slice-2.ensures ∙ numbers) rows
    (is ∙ ap (λ (b : DependLists). one ++ marks_told b.graph.depends ms) own)) c.push_marks_of.ensures
