use Rattle.recovery_law.proofs.FarmsKept.{farms_kept}
use Rattle.recovery_law.proofs.RowsSaid.{format_said, rows_said}
use Rattle.recovery_law.proofs.farms_said_are_kept.Goals as goal

pub returns-clause-rows : goal.returns-clause-rows
returns-clause-rows c = rows_said

pub returns-clause-format : goal.returns-clause-format
returns-clause-format c = format_said

pub returns-clause-kept : goal.returns-clause-kept
returns-clause-kept c = farms_kept
