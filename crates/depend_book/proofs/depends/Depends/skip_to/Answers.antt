use Rattle.std.proofs.Common.{◌≡◌, ◌∙◌, ◌≤◌, sym, ap, subst}
use Rattle.depend_book.specs.Book.{DependLists, IsBook}
use Rattle.depend_book.specs.Inside.{lists_of}
use Rattle.depend_book.specs.Restored.{skipped}
use Rattle.depend_book.proofs.Restored.{book_skipped}
use Rattle.depend_book.proofs.depends.Depends.skip_to.Goals as goal

pub invariant_of-self : goal.invariant_of-self
invariant_of-self c =
    let b = lists_of c.self.inside in
    let above = subst (λ (lists : DependLists). lists.next ≤ c.args.next) (sym c.self.view_is) c.requires.above in
    let lists : skipped b c.args.next ≡ record { rows = c.skip_to.new.self.rows; graph = b.graph; next = c.skip_to.new.self.next } =
    λ i. record { rows = (sym c.skip_to.ensures i).rows; graph = b.graph; next = (sym c.skip_to.ensures i).next } in
    record { book = subst IsBook lists (book_skipped b c.args.next c.self.invariant.book above c.requires.within) }

pub returns : goal.returns
returns c =
    let b = lists_of c.self.inside in
    (λ i. record { rows = (c.skip_to.ensures i).rows; graph = b.graph; next = (c.skip_to.ensures i).next }) ∙ ap (λ (lists : DependLists). skipped lists c.args.next) c.self.view_is
