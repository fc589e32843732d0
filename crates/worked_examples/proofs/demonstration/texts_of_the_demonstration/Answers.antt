-- The texts compute.
use Rattle.std.proofs.Common.{refl}
use Rattle.std.specs.Fmt.{digits}
use Rattle.serde_json.proofs.OnLiterals.{serde_json_on_literals}
use Rattle.farm_types.specs.Settle.{settle}
use Rattle.farm_types.specs.Step.{finish_all}
use Rattle.farm_lines.specs.Reply.{report_data, attempt_data, launch_data}
use Rattle.worked_examples.proofs.demonstration.texts_of_the_demonstration.Goals as goal

pub returns-clause-first : goal.returns-clause-first
unfolding serde_json_on_literals digits settle finish_all report_data attempt_data launch_data
returns-clause-first c = refl

pub returns-clause-third : goal.returns-clause-third
unfolding serde_json_on_literals digits settle finish_all report_data attempt_data launch_data
returns-clause-third c = refl
