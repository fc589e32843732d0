use Rattle.std.proofs.Common.{◌∙◌, ap, arith, length, sym}
use Rattle.std.specs.List.{list_all}
use Rattle.farm_types.specs.Jobs.{JobLists}
use Rattle.attempt_book.specs.Book.{AttemptLists}
use Rattle.limit_book.specs.Book.{LimitLists}
use Rattle.farm_books.specs.Inside.{is_framed}
use Rattle.farm_books.specs.Install.{procs_of}
use Rattle.farm_books.proofs.books.Books.make.Goals as goal

pub invariant_of-result : goal.invariant_of-result
invariant_of-result c =
    record {
      attempts_are = ap (λ (b : AttemptLists). b.procs) c.in_ok-make-3.ensures ∙ sym (ap (λ (b : JobLists). procs_of b.slots) c.in_ok-make-6.ensures);
      framed = ap (λ (b : JobLists). list_all is_framed b.slots) c.in_ok-make-6.ensures;
      running = λ limit below. absurd (omega (arith, below, ap (λ (b : LimitLists). length b.limits) c.in_ok-make-4.ensures));
    }
