use Rattle.entry_law.proofs.HostRows.{alloc_stays}
use Rattle.entry_law.proofs.rows.hosts_grow.Goals as goal

pub returns : goal.returns
returns c f e host row k legal at = alloc_stays f e host row legal at
