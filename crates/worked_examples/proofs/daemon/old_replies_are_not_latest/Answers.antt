-- The texts compute.
use Rattle.std.proofs.Common.{refl}
use Rattle.std.specs.Fmt.{digits}
use Rattle.serde_json.proofs.OnLiterals.{serde_json_on_literals}
use Rattle.farm_lines.specs.Reply.{attempt_data}
use Rattle.farm_lines.specs.RequestText.{boot_line, report_line}
use Rattle.worked_examples.proofs.daemon.old_replies_are_not_latest.Goals as goal

pub returns-clause-third : goal.returns-clause-third
unfolding serde_json_on_literals digits boot_line report_line attempt_data
returns-clause-third c = refl
