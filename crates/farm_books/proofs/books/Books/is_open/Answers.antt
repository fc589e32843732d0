use Rattle.std.proofs.Common.{◌≡◌, ◌∙◌, eqb, ap, sym}
use Rattle.farm_types.specs.Depends.{is_open}
use Rattle.farm_types.specs.Farm.{Farm}
use Rattle.depend_graph.specs.Graph.{unmet_of}
use Rattle.depend_book.proofs.OpenUnmet.{open_unmet}
use Rattle.farm_books.specs.Books.{FarmBooks, depends_of}
use Rattle.farm_books.proofs.WholeBooks.{whole_farm}
use Rattle.farm_books.proofs.books.Books.is_open.Goals as goal

pub returns : goal.returns
returns c =
    let v = c.args.self.now in
    let slot = c.args.slot in
    let unmet : c.unmet.result ≡ unmet_of v.graph.depends slot = c.unmet.ensures ∙ ap (λ (w : FarmBooks). unmet_of w.graph.depends slot) c.self.view_is in
    ap (λ n. eqb n 0) unmet
    ∙ (sym (open_unmet v.farm (depends_of v) c.kept.ensures.book c.requires.fits slot) ∙ ap (λ (f : Farm). is_open f slot) (whole_farm v c.requires))
