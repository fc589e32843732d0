-- The bytes compute.
use Rattle.std.proofs.Common.{refl}
use Rattle.std.specs.Fmt.{digits}
use Rattle.serde_json.proofs.OnLiterals.{serde_json_on_literals}
use Rattle.row_codec.specs.RowFields.{depend_fields, free_fields, head_fields, host_fields, job_fields, layer_fields, limit_fields, met_fields, resting_fields, running_fields, sub_fields}
use Rattle.row_codec.proofs.examples.bytes_of_rows.Goals as goal

pub returns-clause-head : goal.returns-clause-head
unfolding serde_json_on_literals digits head_fields
returns-clause-head c = refl

pub returns-clause-sub : goal.returns-clause-sub
unfolding serde_json_on_literals digits sub_fields
returns-clause-sub c = refl

pub returns-clause-layer : goal.returns-clause-layer
unfolding serde_json_on_literals digits layer_fields
returns-clause-layer c = refl

pub returns-clause-free : goal.returns-clause-free
unfolding serde_json_on_literals digits free_fields
returns-clause-free c = refl

pub returns-clause-running : goal.returns-clause-running
unfolding serde_json_on_literals digits running_fields
returns-clause-running c = refl

pub returns-clause-depend : goal.returns-clause-depend
unfolding serde_json_on_literals digits depend_fields
returns-clause-depend c = refl

pub returns-clause-met : goal.returns-clause-met
unfolding serde_json_on_literals digits met_fields
returns-clause-met c = refl

pub returns-clause-host : goal.returns-clause-host
unfolding serde_json_on_literals digits host_fields
returns-clause-host c = refl

pub returns-clause-job : goal.returns-clause-job
unfolding serde_json_on_literals digits job_fields
returns-clause-job c = refl

pub returns-clause-dead : goal.returns-clause-dead
unfolding serde_json_on_literals digits resting_fields
returns-clause-dead c = refl

pub returns-clause-limit : goal.returns-clause-limit
unfolding serde_json_on_literals digits limit_fields
returns-clause-limit c = refl
