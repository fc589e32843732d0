use Rattle.std.proofs.Common.{arith, ◌≡◌, ◌≤◌, ◌+◌, ◌∙◌, length, sym, ap}
use Rattle.farm_types.specs.Jobs.{JobLists}
use Rattle.farm_types.specs.declared.limits.TheConstants.{LAST_JOB}
use Rattle.farm_rows.specs.declared.head_row.TheConstants.{ROW_FORMAT}
use Rattle.depend_book.specs.Book.{DependLists}
use Rattle.farm_core.proofs.HeadAfter.{depends_within, finishes_within, head_is}
use Rattle.farm_core.proofs.changes.head_after.Goals as goal

pub overflow_add-finish : goal.overflow_add-finish
overflow_add-finish c =
    let f = c.args.books.now.farm in
    let change = c.args.change.now in
    let number : c.next_finish.result ≡ f.next_finish = c.next_finish.ensures ∙ ap (λ (l : JobLists). l.next_finish) c.jobs.ensures in
    let count : c.len.result ≡ length change.finish = c.len.ensures in
    omega (arith, finishes_within f change c.requires.ready, number, count)

pub overflow_add-depend : goal.overflow_add-depend
overflow_add-depend c =
    let f = c.args.books.now.farm in
    let change = c.args.change.now in
    let number : c.next_number.result ≡ f.next_depend = c.next_number.ensures ∙ ap (λ (b : DependLists). b.next) c.depends.ensures in
    let count : c.len-2.result ≡ length change.follow.depends = c.len-2.ensures in
    omega (arith, depends_within f change c.requires.ready c.kept.ensures.book.next_within, number, count)

pub next_job_after-requires : goal.next_job_after-requires
next_job_after-requires c =
    let most : c.args.books.now.farm.next_job ≤ LAST_JOB + 1 = c.requires.whole.kept.rows.jobs.next_within in
    omega (arith, most)

pub returns : goal.returns
returns c =
    let f = c.args.books.now.farm in
    let change = c.args.change.now in
    let number : c.next_finish.result ≡ f.next_finish = c.next_finish.ensures ∙ ap (λ (l : JobLists). l.next_finish) c.jobs.ensures in
    let depends : c.next_number.result ≡ f.next_depend = c.next_number.ensures ∙ ap (λ (x : DependLists). x.next) c.depends.ensures in
    (λ i. record { format = ROW_FORMAT; moment = c.moment.ensures i; jobs = c.next_job_after.ensures i; finishes = number i + c.len.ensures i; depends = depends i + c.len-2.ensures i })
    ∙ sym (head_is f change)
