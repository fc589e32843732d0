use Rattle.std.proofs.Common.{◌∙◌, sym, ap}
use Rattle.std.specs.List.{list_any}
use Rattle.farm_rows.specs.Changes.{is_mark}
use Rattle.depend_book.specs.Book.{DependLists, marks_of}
use Rattle.farm_core.proofs.old_rows.is_met.Goals as goal

pub returns : goal.returns
returns c =
    let test = is_mark c.args.depend c.args.position in
    c.is_marked.ensures ∙ (ap (λ (b : DependLists). list_any test (marks_of b.graph.depends)) c.depends.ensures ∙ ap (list_any test) (sym c.kept.ensures.met))
