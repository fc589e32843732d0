use Rattle.entry_law.proofs.Sizes.{limits_there, subs_there}
use Rattle.entry_law.proofs.rows.subs_stay.Goals as goal

pub returns : goal.returns
returns c = record { limit = limits_there; sub = subs_there }
