-- What is written and what is left to write give the whole member.
use Rattle.std.proofs.Common.{◌≡◌, ◌∷◌, map, drop}
use Rattle.json.specs.Token.{key}
use Rattle.json.specs.Tree.{items_tokens}
use Rattle.serde_json.specs.View.{items_of}
use Rattle.serde_json.specs.Written.{items_outline}
use Rattle.farm_lines.specs.Reply.{attempt_data, attempts_data}
use Rattle.object_writer.specs.Tokens.{added, tokens_of}
use Rattle.farm_lines.proofs.attempt_writer.write_attempts.Given as goal

abbrev pub invariant-loop-attempt : goal.invariant-loop-attempt
invariant-loop-attempt l = added l.out (items_tokens (items_outline (items_of (map attempt_data (drop l.attempt-index l.attempts))))) ≡ added l.fn.out (key l.name ∷ tokens_of (attempts_data l.attempts))
