use Rattle.std.proofs.Common.{◌≡◌, ◌∙◌, ℕ, sym, ap, subst}
use Rattle.depend_graph.specs.Graph.{CanAdd as GraphCanAdd}
use Rattle.depend_graph.specs.Marked.{with_marked}
use Rattle.depend_book.specs.Book.{DependLists, IsBook}
use Rattle.depend_book.specs.Inside.{lists_of}
use Rattle.depend_book.specs.Restored.{CanRestore, with_restored}
use Rattle.depend_book.specs.Rows.{RowLists}
use Rattle.depend_book.proofs.Restored.{book_restored, graph_can_restore}
use Rattle.depend_book.proofs.depends.Depends.restore.Goals as goal

pub add_marked-requires-clause-can : goal.add_marked-requires-clause-can
add_marked-requires-clause-can c =
    let d = c.args.row in
    let gs = c.args.groups in
    let ms = c.args.marks.now in
    let can = subst (λ (lists : DependLists). CanRestore lists d gs ms) (sym c.self.view_is) c.requires.can in
    subst (λ (m : ℕ). GraphCanAdd c.self.inside.graph m gs) (sym c.depend_of-number.ensures) (graph_can_restore (lists_of c.self.inside) d gs ms c.self.invariant.book can)

pub invariant_of-self : goal.invariant_of-self
invariant_of-self c =
    let b = lists_of c.self.inside in
    let d = c.args.row in
    let gs = c.args.groups in
    let ms = c.args.marks.now in
    let can = subst (λ (lists : DependLists). CanRestore lists d gs ms) (sym c.self.view_is) c.requires.can in
    let rows = ap (λ (r : RowLists). r.rows) c.push.ensures in
    let next = ap (λ (r : RowLists). r.next) c.push.ensures in
    let graph = c.add_marked.ensures ∙ ap (λ (m : ℕ). with_marked b.graph m gs ms) c.depend_of-number.ensures in
    let lists : with_restored b d gs ms ≡ record { rows = c.push.new.self.rows; graph = c.add_marked.new.self; next = c.push.new.self.next } =
    λ i. record { rows = sym rows i; graph = sym graph i; next = sym next i } in
    record { book = subst IsBook lists (book_restored b d gs ms c.self.invariant.book can) }

pub returns : goal.returns
returns c =
    let b = lists_of c.self.inside in
    let d = c.args.row in
    let gs = c.args.groups in
    let ms = c.args.marks.now in
    let rows = ap (λ (r : RowLists). r.rows) c.push.ensures in
    let next = ap (λ (r : RowLists). r.next) c.push.ensures in
    let graph = c.add_marked.ensures ∙ ap (λ (m : ℕ). with_marked b.graph m gs ms) c.depend_of-number.ensures in
    (λ i. record { rows = rows i; graph = graph i; next = next i }) ∙ ap (λ (lists : DependLists). with_restored lists d gs ms) c.self.view_is
