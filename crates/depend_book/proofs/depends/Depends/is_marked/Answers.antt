use Rattle.std.proofs.Common.{◌∙◌, sym, ap}
use Rattle.depend_graph.specs.Graph.{groups_at}
use Rattle.depend_graph.specs.MetAt.{has_mark}
use Rattle.depend_book.specs.Book.{DependLists}
use Rattle.depend_book.proofs.MarkedAt.{marks_at, numbered_book}
use Rattle.depend_book.proofs.depends.Depends.is_marked.Goals as goal

pub returns : goal.returns
returns c =
    let b = c.args.self.now in
    c.is_marked.ensures
    ∙ (ap (λ (l : DependLists). has_mark c.args.position (groups_at l.graph.depends c.args.depend)) c.self.view_is
    ∙ sym (marks_at c.args.depend c.args.position b.graph.depends (numbered_book b c.kept.ensures)))
