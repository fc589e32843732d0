use Rattle.entry_law.proofs.RowStands.{row_stays}
use Rattle.entry_law.proofs.slots.stands_stay.Goals as goal

pub returns : goal.returns
returns c = row_stays
