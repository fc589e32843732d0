use Rattle.farm_stands.proofs.Fitting.{sub_read}
use Rattle.farm_stands.proofs.bounds.burst.Goals as goal

pub returns-in-Some-clause-within : goal.returns-in-Some-clause-within
returns-in-Some-clause-within c = sub_read c.args.farm.now _ c.args.sub c.in-Some.row c.kept.ensures c.books.ensures.farm c.in-Some.ensures
