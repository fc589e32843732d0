-- The texts compute.
use Rattle.std.proofs.Common.{refl}
use Rattle.std.specs.Fmt.{digits}
use Rattle.serde_json.proofs.OnLiterals.{serde_json_on_literals}
use Rattle.farm_lines.specs.Reply.{attempt_data}
use Rattle.farm_lines.specs.RequestText.{boot_line, report_line}
use Rattle.worked_examples.proofs.daemon.spent_lives_only_boot.Goals as goal

pub returns-clause-last : goal.returns-clause-last
unfolding serde_json_on_literals digits boot_line report_line attempt_data
returns-clause-last c = refl

pub returns-clause-spent : goal.returns-clause-spent
unfolding serde_json_on_literals digits boot_line report_line attempt_data
returns-clause-spent c = refl

pub returns-clause-told : goal.returns-clause-told
unfolding serde_json_on_literals digits boot_line report_line attempt_data
returns-clause-told c = refl

pub returns-clause-answered : goal.returns-clause-answered
unfolding serde_json_on_literals digits boot_line report_line attempt_data
returns-clause-answered c = refl
