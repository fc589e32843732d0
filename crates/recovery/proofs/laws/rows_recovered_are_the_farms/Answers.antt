use Rattle.recovery.proofs.Spelled.{rows_are, said_by}
use Rattle.recovery.proofs.laws.rows_recovered_are_the_farms.Goals as goal

pub returns-clause-rows : goal.returns-clause-rows
returns-clause-rows c = λ rows s e. rows_are c.rows_are_read_as_spelled.ensures c.farms_said_are_kept.ensures.rows rows s e

pub returns-clause-format : goal.returns-clause-format
returns-clause-format c = λ rows s e. let said = said_by c.rows_are_read_as_spelled.ensures rows s e in c.farms_said_are_kept.ensures.format said.0 s said.1

pub returns-clause-kept : goal.returns-clause-kept
returns-clause-kept c = λ rows s e. let said = said_by c.rows_are_read_as_spelled.ensures rows s e in c.farms_said_are_kept.ensures.kept said.0 s said.1
