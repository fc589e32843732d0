use Rattle.farm_stands.proofs.Fitting.{host_read}
use Rattle.farm_stands.proofs.bounds.host_size.Goals as goal

pub returns-in-Some-clause-within : goal.returns-in-Some-clause-within
returns-in-Some-clause-within c = host_read c.args.farm.now _ c.args.host c.in-Some.row.now c.kept.ensures c.books.ensures.farm c.in-Some.ensures
