use Rattle.entry_law.proofs.RowStands.{host_stays}
use Rattle.entry_law.proofs.rows.hosts_stay.Goals as goal

pub returns : goal.returns
returns c = host_stays
