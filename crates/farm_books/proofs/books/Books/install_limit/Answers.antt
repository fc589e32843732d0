use Rattle.std.proofs.Common.{◌∙◌, List, ap, length, subst, sym}
use Rattle.std.specs.List.{list_all}
use Rattle.farm_types.specs.Kept.{has_its_limit}
use Rattle.limit_book.specs.Book.{LimitLists}
use Rattle.farm_types.specs.declared.rows.LimitRow.{LimitRow}
use Rattle.farm_books.specs.Books.{FarmBooks, with_farm}
use Rattle.farm_books.specs.Inside.{books_of, farm_of}
use Rattle.farm_books.specs.Limits.{CountsRunning, with_limit}
use Rattle.farm_books.proofs.CountedLimits.{planned_limits, set_counts}
use Rattle.farm_books.proofs.books.Books.install_limit.Goals as goal

pub invariant_of-self : goal.invariant_of-self
invariant_of-self c =
    let a = c.self.inside in
    let there = ap (λ (v : FarmBooks). list_all (has_its_limit (length v.farm.limits)) v.farm.layers) c.self.view_is ∙ c.requires.layers in
    record {
      attempts_are = c.self.invariant.attempts_are;
      framed = c.self.invariant.framed;
      running = subst (λ (b : LimitLists). CountsRunning b a.jobs.layers a.jobs.slots) (sym c.set.ensures.book)
          (set_counts a.limits a.jobs.layers a.jobs.slots c.args.spare c.args.plan c.args.most c.count-count.ensures.counts there c.self.invariant.running);
    }

pub returns : goal.returns
returns c =
    let a = c.self.inside in
    ap (λ (b : LimitLists). with_farm (books_of a) (record (farm_of a) { limits = b.limits })) c.set.ensures.book
    ∙ (ap (λ (rows : List LimitRow). with_farm (books_of a) (record (farm_of a) { limits = rows })) (planned_limits a.limits c.args.spare c.args.plan c.args.most)
    ∙ ap (λ (v : FarmBooks). with_farm v (record v.farm { limits = with_limit v.farm.limits c.args.spare c.args.plan c.args.most })) c.self.view_is)
