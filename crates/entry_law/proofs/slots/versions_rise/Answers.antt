use Rattle.entry_law.proofs.Rising.{versions}
use Rattle.entry_law.proofs.slots.versions_rise.Goals as goal

pub returns : goal.returns
returns c = versions
