use Rattle.std.proofs.Common.{◌∙◌, sym, ap, subst}
use Rattle.farm_types.specs.Finish.{with_finished}
use Rattle.farm_types.specs.Step.{lists_of, with_lists}
use Rattle.depend_book.specs.Book.{without_waiter_in}
use Rattle.farm_books.specs.Books.{FarmBooks, depends_of, with_depends, with_farm}
use Rattle.farm_books.specs.Finish.{CanFinish}
use Rattle.farm_finish.proofs.applying.finish_one.Goals as goal

pub finish-requires : goal.finish-requires
finish-requires c =
    let job = c.args.job in
    let then = c.forget_waiter.ensures ∙ ap (λ (v : FarmBooks). with_depends v (without_waiter_in (depends_of v) job)) c.clear_job.ensures in
    subst (λ (v : FarmBooks). CanFinish (lists_of v.farm) job) (sym then) c.requires.can

pub returns : goal.returns
returns c =
    let job = c.args.job in
    let then = c.forget_waiter.ensures ∙ ap (λ (v : FarmBooks). with_depends v (without_waiter_in (depends_of v) job)) c.clear_job.ensures in
    c.finish.ensures ∙ ap (λ (v : FarmBooks). with_farm v (with_lists v.farm (with_finished job (lists_of v.farm)))) then
