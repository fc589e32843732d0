use Rattle.fault_counts.proofs.CountLaws.{HasRisen-earlier, HasRisen-incremented, HasRisen-later, HasRisenBy-push, last_count-stays}
use Rattle.fault_counts.proofs.laws.counts_rise.Goals as goal

pub returns-clause-rises : goal.returns-clause-rises
returns-clause-rises c = HasRisen-incremented

pub returns-clause-later : goal.returns-clause-later
returns-clause-later c = HasRisen-later

pub returns-clause-earlier : goal.returns-clause-earlier
returns-clause-earlier c = HasRisen-earlier

pub returns-clause-stays : goal.returns-clause-stays
returns-clause-stays c = last_count-stays

pub returns-clause-counted : goal.returns-clause-counted
returns-clause-counted c = HasRisenBy-push
