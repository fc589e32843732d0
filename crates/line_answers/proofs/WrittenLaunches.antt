-- Launches that were written one after the other.
use Rattle.std.proofs.Common.{◌≡◌, List, [], ◌++◌, length, refl, sym, ap, ◌∙◌, append_assoc}
use Rattle.std.proofs.lemmas.List.{length-map, map-append}
use Rattle.json.specs.Token.{Token}
use Rattle.farm_types.specs.declared.attempt.Attempt.{Attempt}
use Rattle.farm_lines.specs.declared.launch.Launch.{Launch}
use Rattle.line_answers.specs.Launches.{HasWritten, Writes, launch_tokens}
use Rattle.object_writer.specs.Tokens.{added}
use Rattle.report_codec.specs.Launches.{attempts_in}

-- none yet
pub none_written : (out : List Token) (launched : List Attempt) → launched ≡ [] → HasWritten out [] out launched
none_written out launched none = record { text = λ rest. refl; attempts = none }

-- as many were launched as were found
pub long_as : (old now : List Token) (found : List Launch) (launched : List Attempt) → HasWritten old found now launched → length launched ≡ length found
long_as old now found launched so_far = ap length so_far.attempts ∙ length-map found (λ (l : Launch). l.attempt)

-- some more
pub one_more : (old now new : List Token) (found here : List Launch) (before after : List Attempt) → HasWritten old found now before → Writes now before here new after
    → HasWritten old (found ++ here) new after
one_more old now new found here before after so_far more = record {
  text = λ rest. more.text rest ∙ so_far.text (here ++ rest) ∙ ap (λ (ls : List Launch). added old (launch_tokens ls)) (sym (append_assoc found here rest));
  attempts = more.attempts ∙ ap (λ (xs : List Attempt). xs ++ attempts_in here) so_far.attempts ∙ sym (map-append (λ (l : Launch). l.attempt) found here);
}
