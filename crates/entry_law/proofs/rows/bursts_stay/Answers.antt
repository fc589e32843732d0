use Rattle.entry_law.proofs.RowStands.{burst_stays, most_stays}
use Rattle.entry_law.proofs.rows.bursts_stay.Goals as goal

pub returns : goal.returns
returns c = record { burst = burst_stays; most = most_stays }
