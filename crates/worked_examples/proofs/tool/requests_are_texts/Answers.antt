-- The examples compute.
use Rattle.std.proofs.Common.{refl}
use Rattle.serde_json.proofs.OnLiterals.{serde_json_on_literals}
use Rattle.std.specs.Fmt.{digits}
use Rattle.farm_lines.specs.RequestText.{boot_line, report_line, limit_line, list_line}
use Rattle.worked_examples.proofs.tool.requests_are_texts.Goals as goal

pub returns-clause-boot : goal.returns-clause-boot
unfolding serde_json_on_literals digits boot_line report_line list_line
returns-clause-boot c = refl

pub returns-clause-report : goal.returns-clause-report
unfolding serde_json_on_literals digits boot_line report_line list_line
returns-clause-report c = refl

pub returns-clause-limit : goal.returns-clause-limit
unfolding serde_json_on_literals digits limit_line
returns-clause-limit c = refl

pub returns-clause-list : goal.returns-clause-list
unfolding serde_json_on_literals digits boot_line report_line list_line
returns-clause-list c = refl
