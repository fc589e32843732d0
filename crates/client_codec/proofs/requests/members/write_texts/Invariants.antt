-- What is written and what is left to write give the whole member.
use Rattle.std.proofs.Common.{◌≡◌, ◌∷◌, map, drop}
use Rattle.json.specs.Token.{key}
use Rattle.json.specs.Tree.{items_tokens}
use Rattle.serde_json.specs.Data.{string}
use Rattle.serde_json.specs.View.{items_of}
use Rattle.serde_json.specs.Written.{items_outline}
use Rattle.farm_lines.specs.RequestText.{texts_data}
use Rattle.object_writer.specs.Tokens.{added, tokens_of}
use Rattle.client_codec.proofs.requests.members.write_texts.Given as goal

abbrev pub invariant-loop-text : goal.invariant-loop-text
invariant-loop-text l = added l.out (items_tokens (items_outline (items_of (map string (drop l.text-index l.texts))))) ≡ added l.fn.out (key l.name ∷ tokens_of (texts_data l.texts))
