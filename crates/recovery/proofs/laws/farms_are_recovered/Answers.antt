use Rattle.recovery.proofs.Spelled.{farm_again}
use Rattle.recovery.proofs.laws.farms_are_recovered.Goals as goal

pub returns : goal.returns
returns c = λ format f kept has fit. farm_again c.rows_are_read_back.ensures format f fit (c.rows_say_their_farm.ensures format f kept has)
