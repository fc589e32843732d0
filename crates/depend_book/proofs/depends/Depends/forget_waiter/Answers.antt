use Rattle.std.proofs.Common.{◌≡◌, sym, ap, subst, ◌∙◌}
use Rattle.depend_graph.specs.Graph.{GraphLists}
use Rattle.depend_book.specs.Book.{DependLists, IsBook, marks_of, without_waiter_in}
use Rattle.depend_book.specs.Forgotten.{marks_among}
use Rattle.depend_book.specs.Inside.{lists_of}
use Rattle.depend_book.proofs.Forgotten.{book_without}
use Rattle.depend_book.proofs.MarksLeft.{marks_left}
use Rattle.depend_book.proofs.depends.Depends.forget_waiter.Goals as goal

pub invariant_of-self : goal.invariant_of-self
invariant_of-self c =
    let b = lists_of c.self.inside in
    let f = c.forget_all in
    let lists : without_waiter_in b c.args.job ≡ record { rows = f.new.rows.rows; graph = f.new.graph; next = f.new.rows.next } =
    λ i. record { rows = sym f.ensures.rows i; graph = sym f.ensures.graph i; next = sym f.ensures.next i } in
    record { book = subst IsBook lists (book_without b c.args.job c.self.invariant.book) }

pub returns-clause-book : goal.returns-clause-book
returns-clause-book c =
    let f = c.forget_all in
    (λ i. record { rows = f.ensures.rows i; graph = f.ensures.graph i; next = f.ensures.next i }) ∙ ap (λ (lists : DependLists). without_waiter_in lists c.args.job) c.self.view_is

pub returns-clause-marks : goal.returns-clause-marks
returns-clause-marks c =
    let b = lists_of c.self.inside in
    ap (λ (g : GraphLists). marks_of g.depends) c.forget_all.ensures.graph
    ∙ (marks_left b c.args.job c.self.invariant.book ∙ λ i. marks_among (sym c.forget_all.ensures.rows i) (marks_of (c.self.view_is i).graph.depends))
