use Rattle.entry_law.proofs.Rising.{amounts}
use Rattle.entry_law.proofs.slots.frames_keep_amounts.Goals as goal

pub returns : goal.returns
returns c = amounts
