use Rattle.std.proofs.Common.{◌<◌, ◌∙◌, length, ap, subst, sym}
use Rattle.farm_types.specs.Sums.{running_in}
use Rattle.farm_books.specs.Books.{FarmBooks}
use Rattle.farm_books.proofs.books.Books.limits.Goals as goal

pub returns-clause-running : goal.returns-clause-running
returns-clause-running c limit below =
    c.self.invariant.running limit (subst (λ (v : FarmBooks). limit < length v.farm.limits) (sym c.self.view_is) below) ∙ ap (λ (v : FarmBooks). running_in v.farm limit) c.self.view_is
