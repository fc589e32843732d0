use Rattle.entry_law.proofs.Rising.{running}
use Rattle.entry_law.proofs.slots.only_books_run.Goals as goal

pub returns : goal.returns
returns c = running
