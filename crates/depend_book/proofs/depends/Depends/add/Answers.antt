use Rattle.std.proofs.Common.{◌≡◌, ◌∙◌, ℕ, sym, ap, subst}
use Rattle.depend_graph.specs.Graph.{CanAdd as GraphCanAdd, with_depend}
use Rattle.depend_book.specs.Book.{CanAdd, DependLists, IsBook, with_new}
use Rattle.depend_book.specs.Inside.{lists_of}
use Rattle.depend_book.proofs.Added.{book_added, graph_can_add, rows_pushed}
use Rattle.depend_book.proofs.depends.Depends.add.Goals as goal

pub add-requires-clause-can : goal.add-requires-clause-can
add-requires-clause-can c =
    let n = c.args.depend in
    let can = subst (λ (lists : DependLists). CanAdd lists n) (sym c.self.view_is) c.requires.can in
    subst (λ (m : ℕ). GraphCanAdd c.self.inside.graph m n.groups) (sym c.next.ensures) (graph_can_add (lists_of c.self.inside) n c.self.invariant.book can)

pub invariant_of-self : goal.invariant_of-self
invariant_of-self c =
    let b = lists_of c.self.inside in
    let n = c.args.depend in
    let can = subst (λ (lists : DependLists). CanAdd lists n) (sym c.self.view_is) c.requires.can in
    let added = with_new b n in
    let rows = rows_pushed b c.args.self.now n c.next.result c.are_met_at_once-met_all.result c.push.new.self c.self.view_is c.next.ensures c.are_met_at_once-met_all.ensures c.push.ensures in
    let graph = c.add.ensures ∙ ap (λ (m : ℕ). with_depend b.graph m n.groups) c.next.ensures in
    let lists : added ≡ record { rows = c.push.new.self.rows; graph = c.add.new.self; next = c.push.new.self.next } =
    λ i. record { rows = sym rows.0 i; graph = sym graph i; next = sym rows.1 i } in
    record { book = subst IsBook lists (book_added b n c.self.invariant.book can) }

pub returns : goal.returns
returns c =
    let b = lists_of c.self.inside in
    let n = c.args.depend in
    let rows = rows_pushed b c.args.self.now n c.next.result c.are_met_at_once-met_all.result c.push.new.self c.self.view_is c.next.ensures c.are_met_at_once-met_all.ensures c.push.ensures in
    let graph = c.add.ensures ∙ ap (λ (m : ℕ). with_depend b.graph m n.groups) c.next.ensures in
    (λ i. record { rows = rows.0 i; graph = graph i; next = rows.1 i }) ∙ ap (λ (lists : DependLists). with_new lists n) c.self.view_is
