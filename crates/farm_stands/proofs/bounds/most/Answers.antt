use Rattle.farm_stands.proofs.Fitting.{limit_read}
use Rattle.farm_stands.proofs.bounds.most.Goals as goal

pub returns-in-Some-clause-within : goal.returns-in-Some-clause-within
returns-in-Some-clause-within c =
    limit_read c.args.farm.now _ c.args.limit _ c.in-Some.row.now c.kept.ensures c.books.ensures.farm c.limits.ensures.rows c.in-Some.ensures
