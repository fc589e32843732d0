use Rattle.farm_law.proofs.NeedsHosts.{needs_hosts}
use Rattle.farm_law.proofs.law.safety_needs_hosts.Goals as goal

pub returns : goal.returns
returns c = needs_hosts
