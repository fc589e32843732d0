use Rattle.entry_law.proofs.Sizes.{sizes}
use Rattle.entry_law.proofs.rows.sizes_change_by_boots.Goals as goal

pub returns : goal.returns
returns c = sizes
