use Rattle.std.proofs.Common.{◌∙◌, length, sym, ap, subst}
use Rattle.depend_graph.specs.Graph.{GraphLists}
use Rattle.depend_book.specs.Book.{DependLists, IsBook, done_in, with_graph}
use Rattle.depend_book.specs.Inside.{lists_of}
use Rattle.depend_book.proofs.Kept.{IsKept, as_many_flags, book_after, done_kept, rows_told}
use Rattle.depend_book.proofs.depends.Depends.set_done.Goals as goal

pub invariant_of-self : goal.invariant_of-self
invariant_of-self c =
    let b = lists_of c.self.inside in
    let g = c.set_done.new.self in
    let book = c.self.invariant.book in
    let kept = subst (λ (graph : GraphLists). IsKept b.graph.depends graph.depends) (sym c.set_done.ensures.graph) (done_kept b.graph c.args.slot c.args.done) in
    let rows = rows_told b g c.set_done.new.opened c.satisfied.result.now c.satisfy_all.new.self.rows book kept c.set_done.ensures.opened c.satisfied.ensures c.satisfy_all.ensures.rows in
    record {
      book = subst (λ (lists : DependLists). IsBook lists) (λ i. record { rows = sym rows i; graph = g; next = sym c.satisfy_all.ensures.next i }) (book_after b g book kept (ap (λ (graph : GraphLists). length graph.done) c.set_done.ensures.graph ∙ as_many_flags b.graph c.args.slot c.args.done));
    }

pub returns : goal.returns
returns c =
    let b = lists_of c.self.inside in
    let g = c.set_done.new.self in
    let kept = subst (λ (graph : GraphLists). IsKept b.graph.depends graph.depends) (sym c.set_done.ensures.graph) (done_kept b.graph c.args.slot c.args.done) in
    let rows = rows_told b g c.set_done.new.opened c.satisfied.result.now c.satisfy_all.new.self.rows c.self.invariant.book kept c.set_done.ensures.opened c.satisfied.ensures c.satisfy_all.ensures.rows in
    (λ i. record { rows = rows i; graph = g; next = c.satisfy_all.ensures.next i }) ∙ ap (with_graph b) c.set_done.ensures.graph
    ∙ ap (λ (lists : DependLists). done_in lists c.args.slot c.args.done) c.self.view_is
