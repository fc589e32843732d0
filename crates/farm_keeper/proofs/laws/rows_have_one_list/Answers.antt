use Rattle.farm_keeper.proofs.RowLaws.{Lists-from, Lists-only, Lists-sorted}
use Rattle.farm_keeper.proofs.laws.rows_have_one_list.Goals as goal

pub returns : goal.returns
returns c = record { only = Lists-only; from = Lists-from; listed = Lists-sorted }
