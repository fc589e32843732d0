-- The texts compute.
use Rattle.std.proofs.Common.{refl}
use Rattle.std.specs.Fmt.{digits}
use Rattle.serde_json.proofs.OnLiterals.{serde_json_on_literals}
use Rattle.farm_lines.specs.Reply.{attempt_data}
use Rattle.farm_lines.specs.RequestText.{boot_line, report_line}
use Rattle.worked_examples.proofs.daemon.unfit_launches_are_reported.Goals as goal

pub returns-clause-line : goal.returns-clause-line
unfolding serde_json_on_literals digits boot_line report_line attempt_data
returns-clause-line c = refl

pub returns-clause-failed_start : goal.returns-clause-failed_start
unfolding serde_json_on_literals digits boot_line report_line attempt_data
returns-clause-failed_start c = refl
