use Rattle.std.proofs.Common.{◌∙◌}
use Rattle.farm_types.specs.Sums.{running_in}
use Rattle.farm_books.proofs.CountedLimits.{place_in}
use Rattle.farm_books.proofs.books.Books.has_place_in.Goals as goal

pub returns : goal.returns
returns c =
    let f = c.args.self.now.farm in
    c.has_place.ensures ∙ place_in c.limits.result.now f.limits c.args.limit (running_in f c.args.limit) c.get.result c.limits.ensures.rows (c.limits.ensures.running c.args.limit) c.get.ensures
