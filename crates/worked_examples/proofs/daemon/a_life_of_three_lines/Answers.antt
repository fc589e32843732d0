-- The texts compute.
use Rattle.std.proofs.Common.{refl}
use Rattle.std.specs.Fmt.{digits}
use Rattle.serde_json.proofs.OnLiterals.{serde_json_on_literals}
use Rattle.farm_lines.specs.Reply.{attempt_data}
use Rattle.farm_lines.specs.RequestText.{boot_line, report_line}
use Rattle.worked_examples.proofs.daemon.a_life_of_three_lines.Goals as goal

pub returns-clause-boot : goal.returns-clause-boot
unfolding serde_json_on_literals digits boot_line report_line attempt_data
returns-clause-boot c = refl

pub returns-clause-first : goal.returns-clause-first
unfolding serde_json_on_literals digits boot_line report_line attempt_data
returns-clause-first c = refl

pub returns-clause-busy : goal.returns-clause-busy
unfolding serde_json_on_literals digits boot_line report_line attempt_data
returns-clause-busy c = refl

pub returns-clause-second : goal.returns-clause-second
unfolding serde_json_on_literals digits boot_line report_line attempt_data
returns-clause-second c = refl

pub returns-clause-kept : goal.returns-clause-kept
unfolding serde_json_on_literals digits boot_line report_line attempt_data
returns-clause-kept c = refl
