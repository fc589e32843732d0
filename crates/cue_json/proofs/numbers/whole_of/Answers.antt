use Rattle.std.proofs.Common.{false, option_and_then, drop, ap, ◌∙◌}
use Rattle.fast_float.specs.Text.{scan}
use Rattle.serde_json.specs.Find.{as_u64}
use Rattle.serde_json.specs.Read.{number_from, number_of}
use Rattle.cue_json.proofs.NumberRead.{no_whole, with_minus, without_minus}
use Rattle.cue_json.proofs.numbers.whole_of.Goals as goal

pub returns-then-has_minus : goal.returns-then-has_minus
returns-then-has_minus c =
    let bytes = c.as_bytes-bytes.result.now in
    no_whole (scan (drop 1 bytes)) ∙ ap (option_and_then as_u64) (with_minus bytes c.if-has_minus.ensures.value ∙ ap number_of c.as_bytes-bytes.ensures.value)

pub returns : goal.returns
returns c =
    let bytes = c.as_bytes-bytes.result.now in
    c.positive.ensures ∙ ap (λ p. option_and_then as_u64 (number_from false p)) c.scan.ensures.parts
    ∙ ap (option_and_then as_u64) (without_minus bytes c.if-has_minus.ensures.value ∙ ap number_of c.as_bytes-bytes.ensures.value)
