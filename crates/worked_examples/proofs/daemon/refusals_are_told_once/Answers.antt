-- The texts compute.
use Rattle.std.proofs.Common.{refl}
use Rattle.std.specs.Fmt.{digits}
use Rattle.serde_json.proofs.OnLiterals.{serde_json_on_literals}
use Rattle.farm_lines.specs.Reply.{attempt_data}
use Rattle.farm_lines.specs.RequestText.{boot_line, report_line}
use Rattle.worked_examples.proofs.daemon.refusals_are_told_once.Goals as goal

pub returns-clause-boots_again : goal.returns-clause-boots_again
unfolding serde_json_on_literals digits boot_line report_line attempt_data
returns-clause-boots_again c = refl

pub returns-clause-goes_on : goal.returns-clause-goes_on
unfolding serde_json_on_literals digits boot_line report_line attempt_data
returns-clause-goes_on c = refl

pub returns-clause-store_goes_on : goal.returns-clause-store_goes_on
unfolding serde_json_on_literals digits boot_line report_line attempt_data
returns-clause-store_goes_on c = refl
