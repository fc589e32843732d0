use Rattle.recovery_law.proofs.Said.{rows_say_in}
use Rattle.recovery_law.proofs.rows_say_their_farm.Goals as goal

pub returns : goal.returns
returns c = rows_say_in
