use Rattle.std.proofs.Common.{true, false, ap, ◌∙◌}
use Rattle.std.specs.Prelude.{is_some}
use Rattle.fast_float.specs.Text.{scan}
use Rattle.serde_json.specs.Read.{number_from, number_of}
use Rattle.cue_json.proofs.NumberRead.{behind, with_minus, without_minus}
use Rattle.cue_json.proofs.numbers.has_number.Goals as goal

pub returns-then-has_minus : goal.returns-then-has_minus
returns-then-has_minus c =
    let bytes = c.as_bytes-bytes.result.now in
    c.has_negative.ensures ∙ ap (λ p. is_some (number_from true p)) (c.scan.ensures.parts ∙ ap scan (behind bytes))
    ∙ ap is_some (with_minus bytes c.if-has_minus.ensures.value ∙ ap number_of c.as_bytes-bytes.ensures.value)

pub returns-else-has_minus : goal.returns-else-has_minus
returns-else-has_minus c =
    let bytes = c.as_bytes-bytes.result.now in
    c.has_positive.ensures ∙ ap (λ p. is_some (number_from false p)) c.scan-else-has_minus.ensures.parts
    ∙ ap is_some (without_minus bytes c.if-has_minus.ensures.value ∙ ap number_of c.as_bytes-bytes.ensures.value)
