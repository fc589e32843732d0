-- The rows compute.
use Rattle.std.proofs.Common.{refl}
use Rattle.std.specs.Fmt.{digits}
use Rattle.std.specs.Str.{chars, is_utf8}
use Rattle.serde_json.proofs.OnLiterals.{serde_json_on_literals}
use Rattle.cue_json.specs.Lines.{object_in}
use Rattle.row_codec.specs.RowFields.{head_fields, layer_fields, sub_fields}
use Rattle.row_codec.specs.RowReading.{head_at, host_at, layer_at, row_from, sub_at}
use Rattle.row_codec.proofs.examples.rows_of_bytes.Goals as goal

pub returns-clause-sub : goal.returns-clause-sub
unfolding row_from object_in is_utf8 chars serde_json_on_literals digits sub_at sub_fields
returns-clause-sub c = refl

pub returns-clause-blank : goal.returns-clause-blank
unfolding row_from object_in is_utf8 chars serde_json_on_literals digits sub_at sub_fields
returns-clause-blank c = refl

pub returns-clause-order : goal.returns-clause-order
unfolding row_from object_in is_utf8 chars serde_json_on_literals digits sub_at sub_fields
returns-clause-order c = refl

pub returns-clause-more : goal.returns-clause-more
unfolding row_from object_in is_utf8 chars serde_json_on_literals digits sub_at sub_fields
returns-clause-more c = refl

pub returns-clause-past : goal.returns-clause-past
unfolding row_from object_in is_utf8 chars serde_json_on_literals digits sub_at
returns-clause-past c = refl

pub returns-clause-kind : goal.returns-clause-kind
unfolding row_from object_in is_utf8 chars serde_json_on_literals digits host_at
returns-clause-kind c = refl

pub returns-clause-id : goal.returns-clause-id
unfolding row_from object_in is_utf8 chars serde_json_on_literals digits head_at head_fields
returns-clause-id c = refl

pub returns-clause-old : goal.returns-clause-old
unfolding row_from object_in is_utf8 chars serde_json_on_literals digits layer_at layer_fields
returns-clause-old c = refl

pub returns-clause-new : goal.returns-clause-new
unfolding row_from object_in is_utf8 chars serde_json_on_literals digits layer_at layer_fields
returns-clause-new c = refl
