use Rattle.std.proofs.Common.{◌∙◌, length, sym, ap, subst}
use Rattle.depend_graph.specs.Graph.{GraphLists}
use Rattle.depend_book.specs.Book.{DependLists, IsBook, dropped_in, with_graph}
use Rattle.depend_book.specs.Inside.{lists_of}
use Rattle.depend_book.proofs.Kept.{IsKept, book_after, dropped_kept, rows_told}
use Rattle.depend_book.proofs.depends.Depends.drop_depend.Goals as goal

pub invariant_of-self : goal.invariant_of-self
invariant_of-self c =
    let b = lists_of c.self.inside in
    let g = c.drop_depend.new.self in
    let book = c.self.invariant.book in
    let kept = subst (λ (graph : GraphLists). IsKept b.graph.depends graph.depends) (sym c.drop_depend.ensures.graph) (dropped_kept b.graph c.args.depend) in
    let rows = rows_told b g c.drop_depend.new.opened c.satisfied.result.now c.satisfy_all.new.self.rows book kept c.drop_depend.ensures.opened c.satisfied.ensures c.satisfy_all.ensures.rows in
    record {
      book = subst (λ (lists : DependLists). IsBook lists) (λ i. record { rows = sym rows i; graph = g; next = sym c.satisfy_all.ensures.next i }) (book_after b g book kept (ap (λ (graph : GraphLists). length graph.done) c.drop_depend.ensures.graph));
    }

pub returns : goal.returns
returns c =
    let b = lists_of c.self.inside in
    let g = c.drop_depend.new.self in
    let kept = subst (λ (graph : GraphLists). IsKept b.graph.depends graph.depends) (sym c.drop_depend.ensures.graph) (dropped_kept b.graph c.args.depend) in
    let rows = rows_told b g c.drop_depend.new.opened c.satisfied.result.now c.satisfy_all.new.self.rows c.self.invariant.book kept c.drop_depend.ensures.opened c.satisfied.ensures c.satisfy_all.ensures.rows in
    (λ i. record { rows = rows i; graph = g; next = c.satisfy_all.ensures.next i }) ∙ ap (with_graph b) c.drop_depend.ensures.graph
    ∙ ap (λ (lists : DependLists). dropped_in lists c.args.depend) c.self.view_is
