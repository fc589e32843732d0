-- What was read of a line makes an act within its forms and limits.
use Rattle.std.proofs.Common.{◌≡◌, ℕ, List, Option, Result, Ok, Err, ap, ◌∙◌}
use Rattle.std.specs.Prelude.{IfOk}
use Rattle.serde_json.specs.Data.{Members}
use Rattle.cue_json.specs.Lines.{object_in}
use Rattle.farm_lines.specs.declared.request.Request.{Request}
use Rattle.farm_lines.specs.declared.request.RequestFault.{RequestFault}
use Rattle.farm_lines.specs.Request.{request_in, request_of}
use Rattle.farm_lines.proofs.RequestLemmas.{asked_is_formed}
use Rattle.report_codec.specs.Reads.{AsksWithin, IsRequest}

pub asks_within : (line : List ℕ) (found : Option Members) (read : Result Request RequestFault) → object_in line ≡ found → IsRequest read (request_in found) → IfOk read AsksWithin
unfolding request_of
asks_within line found (Ok asked) is gives = asked_is_formed line asked (ap request_in is ∙ gives)
asks_within line found (Err fault) is gives = tt
