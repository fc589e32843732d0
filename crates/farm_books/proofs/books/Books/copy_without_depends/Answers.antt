use Rattle.std.proofs.Common.{◌∙◌, ◌<◌, ap, length, subst, sym}
use Rattle.std.specs.List.{list_all}
use Rattle.farm_types.specs.Jobs.{JobLists}
use Rattle.farm_types.specs.Sums.{running_among, total_at}
use Rattle.attempt_book.specs.Book.{AttemptLists}
use Rattle.limit_book.specs.Book.{LimitLists}
use Rattle.farm_books.specs.Inside.{is_framed}
use Rattle.farm_books.specs.Install.{procs_of}
use Rattle.farm_books.proofs.books.Books.copy_without_depends.Goals as goal

pub invariant_of-result : goal.invariant_of-result
invariant_of-result c =
    let jobs = c.in_ok-copy-6.ensures in
    let limits = c.in_ok-copy-4.ensures in
    record {
      attempts_are = ap (λ (b : AttemptLists). b.procs) c.in_ok-copy-3.ensures ∙ (c.self.invariant.attempts_are ∙ sym (ap (λ (b : JobLists). procs_of b.slots) jobs));
      framed = ap (λ (b : JobLists). list_all is_framed b.slots) jobs ∙ c.self.invariant.framed;
      running = λ limit below.
          ap (λ (b : LimitLists). total_at b.running limit) limits
          ∙ (c.self.invariant.running limit (subst (λ (b : LimitLists). limit < length b.limits) limits below)
          ∙ sym (ap (λ (b : JobLists). running_among b.layers limit b.slots) jobs));
    }
