use Rattle.std.proofs.Common.{true, false, option_and_then, ap, ◌∙◌}
use Rattle.fast_float.specs.Text.{scan}
use Rattle.serde_json.specs.Find.{as_i64}
use Rattle.serde_json.specs.Read.{number_from, number_of}
use Rattle.cue_json.proofs.NumberRead.{behind, with_minus, without_minus}
use Rattle.cue_json.proofs.numbers.signed_of.Goals as goal

pub returns-then-has_minus : goal.returns-then-has_minus
returns-then-has_minus c =
    let bytes = c.as_bytes-bytes.result.now in
    c.negative.ensures ∙ ap (λ p. (option_and_then as_i64) (number_from true p)) (c.scan.ensures.parts ∙ ap scan (behind bytes))
    ∙ ap (option_and_then as_i64) (with_minus bytes c.if-has_minus.ensures.value ∙ ap number_of c.as_bytes-bytes.ensures.value)

pub returns-else-has_minus : goal.returns-else-has_minus
returns-else-has_minus c =
    let bytes = c.as_bytes-bytes.result.now in
    c.unsigned.ensures ∙ ap (λ p. (option_and_then as_i64) (number_from false p)) c.scan-else-has_minus.ensures.parts
    ∙ ap (option_and_then as_i64) (without_minus bytes c.if-has_minus.ensures.value ∙ ap number_of c.as_bytes-bytes.ensures.value)
