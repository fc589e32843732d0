use Rattle.farm_keeper.proofs.RowLaws.{after-deleted, after-nothing, after-other, after-put}
use Rattle.farm_keeper.proofs.laws.batches_change_what_they_name.Goals as goal

pub returns : goal.returns
returns c = record { put = after-put; deleted = after-deleted; others = after-other; nothing = after-nothing }
