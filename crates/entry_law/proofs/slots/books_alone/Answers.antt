use Rattle.entry_law.proofs.Alone.{books_alone}
use Rattle.entry_law.proofs.slots.books_alone.Goals as goal

pub returns : goal.returns
returns c = books_alone
