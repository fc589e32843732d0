use Rattle.entry_law.proofs.Rising.{waiting}
use Rattle.entry_law.proofs.slots.waiting_rises.Goals as goal

pub returns : goal.returns
returns c = waiting
