use Rattle.farm_types.specs.declared.entry.Act.TheVariants as act
use Rattle.farm_changes.proofs.MadeChanges.{prepares_later}
use Rattle.farm_changes.proofs.preparing.prepare.Goals as goal

pub returns-in-Submit : goal.returns-in-Submit
returns-in-Submit c =
    prepares_later c.args.books.now.farm c.args.entry.now (act.Submit c.in-Submit.spec) c.later_of-moment.result c.prepare_submit.result c.later_of-moment.ensures c.in-Submit.is c.prepare_submit.ensures
